use Rattle.std.proofs.Common.{ap, sym, ◌∙◌}
use Rattle.std.specs.Option.{option_copied}
use Rattle.catalog_store.proofs.Noting.{object_of_none, object_of_number}
use Rattle.catalog_store.proofs.numbered.Entries.get.Goals as goal

pub returns-in-Some : goal.returns-in-Some
returns-in-Some c =
    c.object_at.ensures
    ∙ object_of_number c.args.self.now c.args.name.now c.in-Some.number.now c.requires
    (sym c.get.ensures.value ∙ ap option_copied c.in-Some.is)

pub returns-in-None : goal.returns-in-None
returns-in-None c =
    sym (object_of_none c.args.self.now c.args.name.now c.requires
    (sym c.get.ensures.value ∙ ap option_copied c.in-None.is))

use Rattle.std.proofs.Common.{◌∙◌, sym, ap}
use Rattle.bind_sight.proofs.Index.{before, place-taken}
use Rattle.bind_sight.proofs.name_list.NameList.stands_before.Goals as goal

pub returns-in-Some : goal.returns-in-Some
returns-in-Some c = sym (place-taken c.args.name.now c.args.self.now c.args.place ∙
    ap (before c.args.place) (sym c.place.ensures ∙ c.in-Some.is))

pub returns-in-None : goal.returns-in-None
returns-in-None c = sym (place-taken c.args.name.now c.args.self.now c.args.place ∙
    ap (before c.args.place) (sym c.place.ensures ∙ c.in-None.is))

use Rattle.std.proofs.Common.{refl}
use Rattle.catalog_store.proofs.Noting.{come, more_held}
use Rattle.catalog_store.proofs.numbered.Entries.put.Goals as goal

pub returns-in-Ok-clause-holds : goal.returns-in-Ok-clause-holds
returns-in-Ok-clause-holds c =
    come c.args.self.now _ c.args.name c.args.object c.requires c.in-Ok.ensures.entries
    c.insert.ensures.ordered refl refl refl

pub returns-in-Ok-clause-ok : goal.returns-in-Ok-clause-ok
returns-in-Ok-clause-ok c =
    more_held c.args.self.now c.insert.new.self.entries c.args.name c.args.object c.requires
    c.in-Ok.ensures.entries

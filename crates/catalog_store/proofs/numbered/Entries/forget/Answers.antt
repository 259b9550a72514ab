use Rattle.std.proofs.Common.{refl}
use Rattle.catalog_store.proofs.Noting.{forgotten}
use Rattle.catalog_store.proofs.numbered.Entries.forget.Goals as goal

pub returns-clause-holds : goal.returns-clause-holds
returns-clause-holds c =
    forgotten c.args.self.now _ c.args.name.now c.args.object.now c.uses_of.result.now c.requires
    refl refl c.uses_of.ensures c.swap_remove.ensures.updates.0 c.remove_uses.ensures

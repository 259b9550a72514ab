use Rattle.catalog_store.proofs.Noting.{holds_nothing}
use Rattle.catalog_store.proofs.numbered.Entries.new.Goals as goal

pub returns-clause-holds : goal.returns-clause-holds
returns-clause-holds c = holds_nothing _ c.new.ensures.empty c.new-2.ensures.empty
    c.new-3.ensures.empty

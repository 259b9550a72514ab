use Rattle.catalog_store.proofs.Laws.{adding_leaves_others}
use Rattle.catalog_store.proofs.names.adding_leaves_the_others.Goals as goal

pub returns : goal.returns
returns c = adding_leaves_others

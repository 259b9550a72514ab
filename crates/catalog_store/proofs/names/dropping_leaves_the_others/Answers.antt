use Rattle.catalog_store.proofs.Laws.{dropping_leaves_others}
use Rattle.catalog_store.proofs.names.dropping_leaves_the_others.Goals as goal

pub returns : goal.returns
returns c = dropping_leaves_others

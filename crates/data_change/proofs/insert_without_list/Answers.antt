use Rattle.rel_algebra.proofs.Laws.{changes_run}
use Rattle.data_change.proofs.insert_without_list.Goals as goal

pub returns : goal.returns
returns c = changes_run.without_list

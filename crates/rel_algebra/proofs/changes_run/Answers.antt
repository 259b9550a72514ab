use Rattle.rel_algebra.proofs.Changes.{changes_run}
use Rattle.rel_algebra.proofs.changes_run.Goals as goal

pub returns : goal.returns
returns c = changes_run

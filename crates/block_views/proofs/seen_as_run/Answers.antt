use Rattle.block_views.proofs.Running.{seen_as_run}
use Rattle.block_views.proofs.seen_as_run.Goals as goal

pub returns : goal.returns
returns c = seen_as_run

use Rattle.null_guards.proofs.Laws.{null_calls_mean}
use Rattle.null_guards.proofs.null_calls_mean.Goals as goal

pub returns : goal.returns
returns c = null_calls_mean

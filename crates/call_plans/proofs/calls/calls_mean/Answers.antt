use Rattle.call_plans.proofs.Called.{calls_mean}
use Rattle.call_plans.proofs.calls.calls_mean.Goals as goal

pub returns : goal.returns
returns c = calls_mean

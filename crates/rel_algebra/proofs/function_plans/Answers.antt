use Rattle.rel_algebra.proofs.Passing.{function_plans}
use Rattle.rel_algebra.proofs.function_plans.Goals as goal

pub returns : goal.returns
returns c = function_plans

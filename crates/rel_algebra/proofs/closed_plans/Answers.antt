use Rattle.rel_algebra.proofs.Within.{closed_plans}
use Rattle.rel_algebra.proofs.closed_plans.Goals as goal

pub returns : goal.returns
returns c = closed_plans

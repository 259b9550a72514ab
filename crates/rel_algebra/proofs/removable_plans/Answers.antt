use Rattle.rel_algebra.proofs.Removable.{removable_plans}
use Rattle.rel_algebra.proofs.removable_plans.Goals as goal

pub returns : goal.returns
returns c = removable_plans

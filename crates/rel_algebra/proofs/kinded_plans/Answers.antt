use Rattle.rel_algebra.proofs.KindTrees.{kinded_plans}
use Rattle.rel_algebra.proofs.kinded_plans.Goals as goal

pub returns : goal.returns
returns c = kinded_plans

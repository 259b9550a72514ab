use Rattle.typing_plans.proofs.Laws.{kinded_trees}
use Rattle.typing_plans.proofs.plans.trees_kinded.Goals as goal

pub returns : goal.returns
returns c = kinded_trees

use Rattle.typing_plans.proofs.Laws.{shaped_trees}
use Rattle.typing_plans.proofs.plans.trees_shaped.Goals as goal

pub returns : goal.returns
returns c = shaped_trees

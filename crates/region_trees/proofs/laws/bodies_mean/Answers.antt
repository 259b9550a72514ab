use Rattle.region_trees.proofs.Meaning.{bodies_mean}
use Rattle.region_trees.proofs.laws.bodies_mean.Goals as goal

pub returns : goal.returns
returns c = bodies_mean c.body_plans.ensures

use Rattle.region_trees.proofs.Bodies.{bodies_formed}
use Rattle.region_trees.proofs.laws.bodies_formed.Goals as goal

pub returns : goal.returns
returns c = bodies_formed

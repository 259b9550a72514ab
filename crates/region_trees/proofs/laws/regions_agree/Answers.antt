use Rattle.region_trees.proofs.Agreeing.{regions_agree}
use Rattle.region_trees.proofs.laws.regions_agree.Goals as goal

pub returns : goal.returns
returns c = regions_agree

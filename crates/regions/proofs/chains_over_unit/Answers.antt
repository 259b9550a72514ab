use Rattle.regions.proofs.TreeLaws.{regions}
use Rattle.regions.proofs.chains_over_unit.Goals as goal

pub returns : goal.returns
returns c = regions

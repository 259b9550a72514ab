use Rattle.regions.proofs.Best.{raises_by_best}
use Rattle.regions.proofs.raises_by_best.Goals as goal

pub returns : goal.returns
returns c = raises_by_best

use Rattle.regions.proofs.TreeLaws.{calls_by_region}
use Rattle.regions.proofs.calls_by_region.Goals as goal

pub returns : goal.returns
returns c = calls_by_region

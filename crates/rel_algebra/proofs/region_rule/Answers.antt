use Rattle.rel_algebra.proofs.Regions.{region_gives}
use Rattle.rel_algebra.proofs.region_rule.Goals as goal

pub returns : goal.returns
returns c = region_gives

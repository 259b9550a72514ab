use Rattle.regions.proofs.TreeLaws.{inlines}
use Rattle.regions.proofs.inlines.Goals as goal

pub returns : goal.returns
returns c = inlines

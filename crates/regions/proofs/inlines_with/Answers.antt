use Rattle.regions.proofs.TreeLaws.{inlines_with}
use Rattle.regions.proofs.inlines_with.Goals as goal

pub returns : goal.returns
returns c = inlines_with

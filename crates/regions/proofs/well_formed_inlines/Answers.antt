use Rattle.regions.proofs.TreeLaws.{well_formed_inlines}
use Rattle.regions.proofs.well_formed_inlines.Goals as goal

pub returns : goal.returns
returns c = well_formed_inlines

use Rattle.regions.proofs.KindsTrees.{kinded_inlines}
use Rattle.regions.proofs.kinded_inlines.Goals as goal

pub returns : goal.returns
returns c = kinded_inlines

use Rattle.rel_algebra.proofs.Simple.{none_left}
use Rattle.rel_algebra.proofs.none_left.Goals as goal

pub returns : goal.returns
returns c = none_left

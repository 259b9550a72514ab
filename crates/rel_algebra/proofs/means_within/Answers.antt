use Rattle.rel_algebra.proofs.Passing.{means_within}
use Rattle.rel_algebra.proofs.means_within.Goals as goal

pub returns : goal.returns
returns c = means_within

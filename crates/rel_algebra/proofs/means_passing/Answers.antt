use Rattle.rel_algebra.proofs.Passing.{means_passing}
use Rattle.rel_algebra.proofs.means_passing.Goals as goal

pub returns : goal.returns
returns c = means_passing

use Rattle.rel_algebra.proofs.Passing.{means_asked}
use Rattle.rel_algebra.proofs.means_asked.Goals as goal

pub returns : goal.returns
returns c = means_asked

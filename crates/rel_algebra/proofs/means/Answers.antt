use Rattle.rel_algebra.proofs.Induction.{means}
use Rattle.rel_algebra.proofs.means.Goals as goal

pub returns : goal.returns
returns c = means

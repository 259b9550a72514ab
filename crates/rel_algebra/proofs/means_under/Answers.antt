use Rattle.rel_algebra.proofs.Induction.{means_under}
use Rattle.rel_algebra.proofs.means_under.Goals as goal

pub returns : goal.returns
returns c = means_under

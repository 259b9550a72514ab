use Rattle.rel_algebra.proofs.Removed.{remove_same}
use Rattle.rel_algebra.proofs.removed_same.Goals as goal

pub returns : goal.returns
returns c = remove_same

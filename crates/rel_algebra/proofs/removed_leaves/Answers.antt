use Rattle.rel_algebra.proofs.Staying.{remove_left}
use Rattle.rel_algebra.proofs.removed_leaves.Goals as goal

pub returns : goal.returns
returns c = remove_left

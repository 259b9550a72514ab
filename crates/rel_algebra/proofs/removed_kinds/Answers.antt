use Rattle.rel_algebra.proofs.KindsRemoved.{remove_kinds}
use Rattle.rel_algebra.proofs.removed_kinds.Goals as goal

pub returns : goal.returns
returns c = remove_kinds

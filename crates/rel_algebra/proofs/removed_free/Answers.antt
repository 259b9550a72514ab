use Rattle.rel_algebra.proofs.Arguments.{remove_inside}
use Rattle.rel_algebra.proofs.removed_free.Goals as goal

pub returns : goal.returns
returns c = remove_inside

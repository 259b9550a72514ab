use Rattle.rel_algebra.proofs.EvenRemoved.{remove_even}
use Rattle.rel_algebra.proofs.removed_even.Goals as goal

pub returns : goal.returns
returns c = remove_even

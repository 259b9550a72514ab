use Rattle.rel_algebra.proofs.Passing.{returned_means}
use Rattle.rel_algebra.proofs.returned_means.Goals as goal

pub returns : goal.returns
returns c = returned_means

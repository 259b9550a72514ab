use Rattle.rel_algebra.proofs.Laws.{removed_means}
use Rattle.rel_algebra.proofs.removed_means.Goals as goal

pub returns : goal.returns
returns c = removed_means

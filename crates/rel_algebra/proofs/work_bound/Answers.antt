use Rattle.rel_algebra.proofs.Bound.{work_bound}
use Rattle.rel_algebra.proofs.work_bound.Goals as goal

pub returns : goal.returns
returns c = work_bound

use Rattle.rel_algebra.proofs.Laws.{run_once}
use Rattle.rel_algebra.proofs.run_once.Goals as goal

pub returns : goal.returns
returns c = run_once

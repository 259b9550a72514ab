use Rattle.rel_algebra.proofs.Even.{rows_long}
use Rattle.rel_algebra.proofs.rows_long.Goals as goal

pub returns : goal.returns
returns c = rows_long

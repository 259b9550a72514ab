use Rattle.std.proofs.Common.{refl}
use Rattle.rel_algebra.proofs.rows_in_turn.Goals as goal

pub returns : goal.returns
returns c = record { given = refl; raises = refl }

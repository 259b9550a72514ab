use Rattle.std.proofs.Common.{refl}
use Rattle.rel_algebra.proofs.inverse_of_each_row.Goals as goal

pub returns : goal.returns
returns c = record { raises = refl; gives = refl }

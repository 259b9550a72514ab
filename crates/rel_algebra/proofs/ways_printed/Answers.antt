use Rattle.std.proofs.Common.{refl}
use Rattle.rel_algebra.proofs.ways_printed.Goals as goal

pub returns : goal.returns
returns c = record { apply_line = refl; once_line = refl; lookup_line = refl; no_key = refl }

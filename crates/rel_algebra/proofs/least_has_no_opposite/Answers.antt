use Rattle.std.proofs.Common.{refl}
use Rattle.rel_algebra.proofs.least_has_no_opposite.Goals as goal

pub returns : goal.returns
returns c = record { gives = refl; divided = refl; negated = refl; null = refl }

use Rattle.std.proofs.Common.{refl}
use Rattle.rel_algebra.proofs.no_value_lacks.Goals as goal

pub returns : goal.returns
returns c = record { refused = refl; stored = refl }

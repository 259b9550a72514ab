use Rattle.std.proofs.Common.{refl}
use Rattle.rel_algebra.proofs.keys_stand_once.Goals as goal

pub returns : goal.returns
returns c = record { in_order = refl; stands = refl; twice = refl; null = refl }

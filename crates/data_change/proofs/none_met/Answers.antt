use Rattle.std.proofs.Common.{refl}
use Rattle.data_change.proofs.none_met.Goals as goal

pub returns : goal.returns
returns c = record { none_changed = refl; none_removed = refl }

use Rattle.std.proofs.Common.{refl}
use Rattle.data_change.proofs.targets_take_values.Goals as goal

pub returns : goal.returns
returns c = record { in_turn = refl; old_values = refl; null = refl }

use Rattle.std.proofs.Common.{refl}
use Rattle.data_change.proofs.keys_of_the_whole.Goals as goal

pub returns : goal.returns
returns c = record { swapped = refl; twice = refl; moved = refl }

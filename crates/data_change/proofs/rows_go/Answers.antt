use Rattle.std.proofs.Common.{refl}
use Rattle.data_change.proofs.rows_go.Goals as goal

pub returns : goal.returns
returns c = record { second = refl; first_two = refl; all = refl }

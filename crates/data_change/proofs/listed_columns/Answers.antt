use Rattle.std.proofs.Common.{refl}
use Rattle.data_change.proofs.listed_columns.Goals as goal

pub returns : goal.returns
returns c = record { one = refl; turned = refl; unlisted = refl; no_key = refl; left_out = refl }

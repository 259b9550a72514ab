use Rattle.std.proofs.Common.{◌≡◌, map}
use Rattle.group_index.specs.Kept.{column_end}
use Rattle.group_index.proofs.kept_rows.KeptRows.finish.Given as goal

abbrev pub invariant-loop-column : goal.invariant-loop-column
invariant-loop-column l = l.ends ≡ map column_end l.yielded

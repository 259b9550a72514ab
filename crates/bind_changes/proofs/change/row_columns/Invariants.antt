use Rattle.std.proofs.Common.{◌≡◌, ◌-◌, ◌++◌}
use Rattle.bind_changes.specs.Writing.{columns_from}
use Rattle.bind_changes.proofs.change.row_columns.Given as goal

abbrev pub invariant-loop-place : goal.invariant-loop-place
invariant-loop-place l = l.items ++ columns_from l.place (l.width - l.place) ≡
    columns_from 0 l.width

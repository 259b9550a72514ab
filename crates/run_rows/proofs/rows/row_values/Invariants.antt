use Rattle.std.proofs.Common.{◌≡◌, ◌≤◌, ◌+◌, ◌++◌, length}
use Rattle.row_types.specs.Cells.{value_rows}
use Rattle.run_rows.proofs.rows.row_values.Given as goal

abbrev pub invariant-loop-alloc : goal.invariant-loop-alloc
invariant-loop-alloc g l = (l.all.items ++ value_rows l.rows ≡ value_rows l.initial.rows) ×
    (l.steps + length l.rows ≤ l.initial.steps + length l.initial.rows)

abbrev pub decreases-loop-alloc : goal.decreases-loop-alloc
decreases-loop-alloc g l = length l.rows

use Rattle.std.proofs.Common.{◌≡◌, ◌≤◌, length, drop, true, not}
use Rattle.std.specs.List.{list_all}
use Rattle.row_types.specs.Ordered.{rises, stands}
use Rattle.row_types.specs.Rows.{Row, by_key}
use Rattle.atomic_undo.specs.Sorting.{rows_at}
use Rattle.atomic_undo.proofs.sorted.may_go_in.Given as goal

abbrev pub invariant-loop-i : goal.invariant-loop-i
invariant-loop-i l = record {
  within : l.i ≤ length l.placed;
  up : rises (by_key l.fn.table.table.key) (rows_at l.fn.rows (drop l.i l.placed)) ≡ true;
  free : list_all (λ (x : Row). not (stands (by_key l.fn.table.table.key) x l.fn.table.table.rows))
      (rows_at l.fn.rows (drop l.i l.placed)) ≡ true;
}

abbrev pub decreases-loop-i : goal.decreases-loop-i
decreases-loop-i l = l.i

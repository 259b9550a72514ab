use Rattle.std.proofs.Common.{◌≡◌, ◌≤◌, ◌-◌, length, drop}
use Rattle.row_types.specs.Ordered.{rises}
use Rattle.row_types.specs.Rows.{by_key}
use Rattle.atomic_undo.proofs.sorted.do_rise.Given as goal

abbrev pub invariant-loop-i : goal.invariant-loop-i
invariant-loop-i l = record {
  after : 1 ≤ l.i;
  up : rises (by_key l.fn.key) l.fn.rows ≡ rises (by_key l.fn.key) (drop (l.i - 1) l.fn.rows);
}

abbrev pub decreases-loop-i : goal.decreases-loop-i
decreases-loop-i l = length l.fn.rows - l.i

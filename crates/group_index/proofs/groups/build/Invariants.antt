use Rattle.std.proofs.Common.{◌≡◌, ◌+◌, ◌≤◌, ◌++◌, length, filter}
use Rattle.row_types.specs.Rows.{Row}
use Rattle.group_index.specs.Indexed.{group_of, has_key}
use Rattle.group_index.proofs.groups.build.Given as goal

abbrev pub invariant-loop-left : goal.invariant-loop-left
invariant-loop-left g l = record {
  groups : (key : Row) → group_of key l.index.entries ++ filter (has_key l.columns key) l.left ≡
      filter (has_key l.columns key) l.fn.rows;
  work : l.steps + length l.left ≤ l.fn.steps + length l.fn.rows;
}

abbrev pub decreases-loop-left : goal.decreases-loop-left
decreases-loop-left g l = length l.left

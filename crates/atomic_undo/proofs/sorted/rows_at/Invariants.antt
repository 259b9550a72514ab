use Rattle.std.proofs.Common.{◌≡◌, ◌++◌, ◌≤◌, drop, length, vec_len, vec_capacity}
use Rattle.atomic_undo.specs.Sorting.{rows_at}
use Rattle.atomic_undo.proofs.sorted.rows_at.Given as goal

abbrev pub invariant-loop-one : goal.invariant-loop-one
invariant-loop-one l = record {
  rows : l.taken.items ++ rows_at l.left.items (drop l.one-index l.fn.placed) ≡
      rows_at l.fn.rows.items l.fn.placed;
  long : length l.left.items ≡ length l.fn.rows.items;
  count : vec_len l.taken ≡ l.one-index;
  room : length l.fn.placed ≤ vec_capacity l.taken;
}

use Rattle.std.proofs.Common.{◌≡◌, ◌++◌, ◌≤◌, drop, length, vec_len, vec_capacity}
use Rattle.row_sort.specs.Places.{rows_at}
use Rattle.row_sort.proofs.rows_at.Given as goal

abbrev pub invariant-loop-place : goal.invariant-loop-place
invariant-loop-place l = record {
  rows : l.taken.items ++ rows_at l.left.items (drop l.place-index l.fn.places) ≡
      rows_at l.fn.rows.items l.fn.places;
  long : length l.left.items ≡ length l.fn.rows.items;
  count : vec_len l.taken ≡ l.place-index;
  room : length l.fn.places ≤ vec_capacity l.taken;
}

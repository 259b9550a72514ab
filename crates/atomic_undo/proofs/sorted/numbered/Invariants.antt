use Rattle.std.proofs.Common.{◌≡◌, ◌++◌, ◌≤◌, drop, length, vec_len, vec_capacity}
use Rattle.atomic_undo.specs.Sorting.{numbered_from}
use Rattle.atomic_undo.proofs.sorted.numbered.Given as goal

abbrev pub invariant-loop-place : goal.invariant-loop-place
invariant-loop-place l = record {
  rows : l.placed.items ++ numbered_from l.fn.key l.place (drop l.place l.fn.rows) ≡
      numbered_from l.fn.key 0 l.fn.rows;
  count : vec_len l.placed ≡ l.place;
  room : length l.fn.rows ≤ vec_capacity l.placed;
}

use Rattle.std.proofs.Common.{◌≡◌, ◌++◌, ◌≤◌, drop, length, map, vec_len, vec_capacity}
use Rattle.row_sort.specs.Numbers.{numbered}
use Rattle.row_sort.proofs.columns.with_numbers.Given as goal

abbrev pub invariant-loop-place : goal.invariant-loop-place
invariant-loop-place l = record {
  rows : l.all.items ++ map (numbered l.fn.alone l.fn.rows l.fn.column)
      (drop l.place-index l.fn.places) ≡ map (numbered l.fn.alone l.fn.rows l.fn.column)
      l.fn.places;
  count : vec_len l.all ≡ l.place-index;
  room : length l.fn.places ≤ vec_capacity l.all;
}

use Rattle.std.proofs.Common.{◌≡◌, ◌++◌, ◌≤◌, drop, length, map, vec_len, vec_capacity}
use Rattle.row_sort.specs.Numbers.{place_of}
use Rattle.row_sort.proofs.columns.places_of.Given as goal

abbrev pub invariant-loop-one : goal.invariant-loop-one
invariant-loop-one l = record {
  places : l.places.items ++ map place_of (drop l.one-index l.fn.all) ≡ map place_of l.fn.all;
  count : vec_len l.places ≡ l.one-index;
  room : length l.fn.all ≤ vec_capacity l.places;
}

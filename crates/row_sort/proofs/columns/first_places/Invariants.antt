use Rattle.std.proofs.Common.{◌≡◌, ◌++◌, ◌≤◌, drop, length, vec_len, vec_capacity}
use Rattle.row_sort.specs.Places.{places_from}
use Rattle.row_sort.proofs.columns.first_places.Given as goal

abbrev pub invariant-loop-place : goal.invariant-loop-place
invariant-loop-place l = record {
  places : l.places.items ++ places_from l.place (drop l.place l.fn.rows) ≡ places_from 0 l.fn.rows;
  count : vec_len l.places ≡ l.place;
  room : length l.fn.rows ≤ vec_capacity l.places;
}

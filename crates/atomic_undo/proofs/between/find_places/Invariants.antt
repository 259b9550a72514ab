use Rattle.std.proofs.Common.{◌≡◌, ◌≤◌, ◌++◌, true, not, length, take, drop, vec_len, vec_capacity}
use Rattle.std.specs.List.{list_all}
use Rattle.row_types.specs.Ordered.{stands}
use Rattle.row_types.specs.Rows.{Row, by_key}
use Rattle.atomic_undo.specs.Between.{places_among}
use Rattle.atomic_undo.proofs.between.find_places.Given as goal

abbrev pub invariant-loop-i : goal.invariant-loop-i
invariant-loop-i l = record {
  places : l.places.items ++ places_among (by_key l.fn.table.table.key) l.fn.table.table.rows l.i
      (drop l.i l.fn.new) ≡ places_among (by_key l.fn.table.table.key) l.fn.table.table.rows 0
      l.fn.new;
  free : list_all (λ (x : Row). not (stands (by_key l.fn.table.table.key) x l.fn.table.table.rows))
      (take l.i l.fn.new) ≡ true;
  noted : vec_len l.places ≡ l.i;
  memory : length l.fn.new ≤ vec_capacity l.places;
}

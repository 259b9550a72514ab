use Rattle.std.proofs.Common.{◌≡◌, ◌≤◌, drop, length}
use Rattle.row_types.specs.Ordered.{in_order}
use Rattle.row_types.specs.Sorting.{keys_cmp}
use Rattle.row_sort.specs.Places.{at_places, places_from}
use Rattle.row_sort.proofs.columns.places_in_order.Given as goal

abbrev pub invariant-loop-i : goal.invariant-loop-i
invariant-loop-i l = record {
  order : l.places.items ≡ in_order (at_places (keys_cmp (drop l.i l.fn.keys)) l.fn.rows)
      (places_from 0 l.fn.rows);
  within : l.i ≤ length l.fn.keys;
}

abbrev pub decreases-loop-i : goal.decreases-loop-i
decreases-loop-i l = l.i

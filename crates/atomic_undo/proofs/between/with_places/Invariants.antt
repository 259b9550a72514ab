use Rattle.std.proofs.Common.{◌≡◌, ◌≤◌, ◌+◌, ◌++◌, length, drop, deque_len, vec_len, vec_capacity}
use Rattle.atomic_undo.specs.Between.{with_places}
use Rattle.atomic_undo.proofs.between.with_places.Given as goal

abbrev pub invariant-loop-row : goal.invariant-loop-row
invariant-loop-row l = record {
  placed : l.placed.items ++ with_places (drop l.i l.fn.places) l.left.items ≡
      with_places l.fn.places l.fn.new.items;
  count : deque_len l.left + l.i ≡ length l.fn.places;
  noted : vec_len l.placed ≡ l.i;
  memory : length l.fn.places ≤ vec_capacity l.placed;
}

abbrev pub decreases-loop-row : goal.decreases-loop-row
decreases-loop-row l = deque_len l.left

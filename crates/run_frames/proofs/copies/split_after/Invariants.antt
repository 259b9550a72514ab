use Rattle.std.proofs.Common.{◌≡◌, ◌≤◌, ◌+◌, ◌-◌, ◌++◌, reverse, vec_len, vec_capacity}
use Rattle.run_frames.proofs.copies.split_after.Given as goal

abbrev pub invariant-loop-tail : goal.invariant-loop-tail
invariant-loop-tail l = record {
  items : l.cursors.items ++ reverse l.tail.items ≡ l.initial.cursors.items;
  room : vec_len l.tail + (vec_len l.cursors - l.count) ≤ vec_capacity l.tail;
  least : l.count ≤ vec_len l.cursors;
}

abbrev pub decreases-loop-tail : goal.decreases-loop-tail
decreases-loop-tail l = vec_len l.cursors

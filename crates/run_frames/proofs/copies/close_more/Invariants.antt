use Rattle.std.proofs.Common.{◌≡◌, ◌≤◌, ◌+◌, ◌-◌, ◌++◌, replicate, vec_len, vec_capacity}
use Rattle.rel_algebra.specs.World.{Closed}
use Rattle.run_frames.proofs.copies.close_more.Given as goal

abbrev pub invariant-loop-done : goal.invariant-loop-done
invariant-loop-done l = record {
  items : l.cursors.items ≡ l.initial.cursors.items ++ replicate l._done Closed;
  room : vec_len l.cursors + (l.count - l._done) ≤ vec_capacity l.cursors;
}

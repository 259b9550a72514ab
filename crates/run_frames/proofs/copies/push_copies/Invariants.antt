use Rattle.std.proofs.Common.{◌≡◌, ◌++◌, replicate}
use Rattle.run_frames.proofs.copies.push_copies.Given as goal

abbrev pub invariant-loop-done : goal.invariant-loop-done
invariant-loop-done l =
    l.values.items ≡ l.initial.values.items ++ replicate l._done l.value

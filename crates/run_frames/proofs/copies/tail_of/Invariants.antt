use Rattle.std.proofs.Common.{◌≡◌, take}
use Rattle.run_frames.proofs.copies.tail_of.Given as goal

abbrev pub invariant-loop-value : goal.invariant-loop-value
invariant-loop-value l = l.tail.items ≡ take l.value-index l.value-items

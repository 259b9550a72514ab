use Rattle.std.proofs.Common.{◌≡◌, ◌++◌, reverse, length}
use Rattle.run_frames.proofs.copies.turned.Given as goal

abbrev pub invariant-loop-row : goal.invariant-loop-row
invariant-loop-row l = l.rows ++ reverse l.left.items ≡ l.initial.rows

abbrev pub decreases-loop-row : goal.decreases-loop-row
decreases-loop-row l = length l.rows

use Rattle.std.proofs.Common.{◌≡◌, ◌++◌, length, reverse}
use Rattle.run_rows.proofs.storing.in_vec.Given as goal

abbrev pub invariant-loop-row : goal.invariant-loop-row
invariant-loop-row l = l.all.items ++ reverse l.left ≡ reverse l.fn.rows

abbrev pub decreases-loop-row : goal.decreases-loop-row
decreases-loop-row l = length l.left

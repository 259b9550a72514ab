use Rattle.std.proofs.Common.{◌≡◌, ◌++◌, length, reverse}
use Rattle.run_places.proofs.passing.values_vec.Given as goal

abbrev pub invariant-loop-value : goal.invariant-loop-value
invariant-loop-value l = l.all.items ++ reverse l.left ≡ reverse l.fn.values

abbrev pub decreases-loop-value : goal.decreases-loop-value
decreases-loop-value l = length l.left

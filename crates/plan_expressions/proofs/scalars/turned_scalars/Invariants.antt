use Rattle.std.proofs.Common.{◌≡◌, ◌++◌, length, reverse}
use Rattle.plan_expressions.proofs.scalars.turned_scalars.Given as goal

abbrev pub invariant-loop-scalar : goal.invariant-loop-scalar
invariant-loop-scalar l = l.turned ++ reverse l.left ≡ reverse l.fn.scalars

abbrev pub decreases-loop-scalar : goal.decreases-loop-scalar
decreases-loop-scalar l = length l.left

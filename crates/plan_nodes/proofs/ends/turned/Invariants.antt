use Rattle.std.proofs.Common.{◌≡◌, ◌++◌, length}
use Rattle.std.specs.Prelude.{reverse}
use Rattle.plan_nodes.proofs.ends.turned.Given as goal

abbrev pub invariant-loop-row : goal.invariant-loop-row
invariant-loop-row l = l.out ++ reverse l.left ≡ reverse l.fn.rows

abbrev pub decreases-loop-row : goal.decreases-loop-row
decreases-loop-row l = length l.left

use Rattle.std.proofs.Common.{◌≡◌, ◌++◌, length, reverse}
use Rattle.plan_steps.proofs.step.turned_stores.Given as goal

abbrev pub invariant-loop-store : goal.invariant-loop-store
invariant-loop-store l = l.turned ++ reverse l.left ≡ reverse l.fn.stores

abbrev pub decreases-loop-store : goal.decreases-loop-store
decreases-loop-store l = length l.left

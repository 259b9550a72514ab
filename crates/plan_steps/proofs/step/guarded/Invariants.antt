use Rattle.std.proofs.Common.{◌≡◌, length, reverse}
use Rattle.rel_algebra.specs.BodySteps.{guarded}
use Rattle.plan_steps.specs.Steps.{stores_of}
use Rattle.plan_expressions.specs.Emission.{put}
use Rattle.plan_steps.proofs.step.guarded.Given as goal

abbrev pub invariant-loop-store : goal.invariant-loop-store
invariant-loop-store l = put l.scalars (guarded l.code (stores_of (reverse l.left))) ≡ guarded
    l.code (stores_of l.fn.stores)

abbrev pub decreases-loop-store : goal.decreases-loop-store
decreases-loop-store l = length l.left

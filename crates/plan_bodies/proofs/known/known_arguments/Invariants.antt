use Rattle.std.proofs.Common.{◌≡◌, drop, length}
use Rattle.plan_bodies.proofs.known.known_arguments.Given as goal
use Rattle.plan_expressions.specs.Emission.{put}
use Rattle.rel_algebra.specs.BodyChain.{knowns}
use Rattle.rel_algebra.specs.Environments.{top}

abbrev pub invariant-loop-place : goal.invariant-loop-place
invariant-loop-place l = put l.tests (knowns (top (length l.parameters)) l.place
    (drop l.place l.parameters)) ≡ knowns (top (length l.parameters)) 0 l.parameters

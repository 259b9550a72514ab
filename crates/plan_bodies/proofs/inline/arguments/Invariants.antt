use Rattle.std.proofs.Common.{◌≡◌, ◌-◌}
use Rattle.plan_bodies.proofs.inline.arguments.Given as goal
use Rattle.plan_expressions.specs.Emission.{put}
use Rattle.rel_algebra.specs.BodyChain.{arguments}

abbrev pub invariant-loop-place : goal.invariant-loop-place
invariant-loop-place l = put l.cells (arguments l.place (l.count - l.place)) ≡ arguments 0 l.count

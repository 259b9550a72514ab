use Rattle.std.proofs.Common.{◌≡◌, drop, length}
use Rattle.plan_bodies.proofs.block.typed_arguments.Given as goal
use Rattle.plan_expressions.specs.Emission.{put}
use Rattle.rel_algebra.specs.BodyChain.{read_outward}
use Rattle.rel_algebra.specs.Environments.{top}

abbrev pub invariant-loop-place : goal.invariant-loop-place
invariant-loop-place l = put l.cells (read_outward (top (length l.parameters)) l.place
    (drop l.place l.parameters)) ≡ read_outward (top (length l.parameters)) 0 l.parameters

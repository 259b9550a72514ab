use Rattle.std.proofs.Common.{◌≡◌, ◌+◌, ◌-◌}
use Rattle.rel_algebra.specs.BodyDispatch.{tags}
use Rattle.rel_algebra.specs.BodySteps.{col}
use Rattle.rel_algebra.specs.Plan.{more}
use Rattle.plan_expressions.specs.Emission.{put}
use Rattle.plan_steps.proofs.step.joined_code.Given as goal

abbrev pub invariant-loop-index : goal.invariant-loop-index
invariant-loop-index l = put l.codes (tags (l.first + l.index) (l.count - l.index)) ≡ more (col 0)
    (tags l.first l.count)

use Rattle.std.proofs.Common.{◌≡◌, length, reverse}
use Rattle.rel_algebra.specs.Emit.{against}
use Rattle.rel_algebra.specs.PlanView.{scalars_of}
use Rattle.plan_expressions.specs.Emission.{put}
use Rattle.plan_expressions.proofs.cases.against.Given as goal

abbrev pub invariant-loop-first : goal.invariant-loop-first
invariant-loop-first l = put l.arms (against l.column (scalars_of (reverse l.left))) ≡
    against l.fn.column (scalars_of l.fn.scalars)

abbrev pub decreases-loop-first : goal.decreases-loop-first
decreases-loop-first l = length l.left

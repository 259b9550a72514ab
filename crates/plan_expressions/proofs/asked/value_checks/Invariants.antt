use Rattle.std.proofs.Common.{◌≡◌, length, reverse}
use Rattle.rel_algebra.specs.Emit.{checks_of}
use Rattle.rel_algebra.specs.PlanView.{scalars_of}
use Rattle.plan_expressions.specs.Emission.{put}
use Rattle.plan_expressions.proofs.asked.value_checks.Given as goal

abbrev pub invariant-loop-scalar : goal.invariant-loop-scalar
invariant-loop-scalar l = put l.checks (checks_of (scalars_of (reverse l.left))) ≡ checks_of
    (scalars_of l.fn.list)

abbrev pub decreases-loop-scalar : goal.decreases-loop-scalar
decreases-loop-scalar l = length l.left

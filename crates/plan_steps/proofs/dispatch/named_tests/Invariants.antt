use Rattle.std.proofs.Common.{◌≡◌, drop, map}
use Rattle.rel_algebra.specs.BodyDispatch.{named_tests}
use Rattle.routine_views.specs.Views.{condition_value}
use Rattle.plan_expressions.specs.Emission.{put}
use Rattle.plan_steps.proofs.dispatch.named_tests.Given as goal

abbrev pub invariant-loop-value : goal.invariant-loop-value
invariant-loop-value l = put l.tests (named_tests (map condition_value
    (drop l.value-index l.values)) l.column) ≡ named_tests (map condition_value l.values) l.column

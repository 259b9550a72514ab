use Rattle.std.proofs.Common.{◌≡◌, drop, map}
use Rattle.rel_algebra.specs.BodyChain.{assigns}
use Rattle.routine_views.specs.Views.{target}
use Rattle.plan_expressions.specs.Emission.{put}
use Rattle.plan_statements.proofs.storing.assigns.Given as goal

abbrev pub invariant-loop-target : goal.invariant-loop-target
invariant-loop-target l = put l.cells (assigns (map target (drop l.target-index l.targets)) l.cell)
    ≡ assigns (map target l.targets) l.first

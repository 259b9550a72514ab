use Rattle.std.proofs.Common.{◌≡◌, ◌∷◌, drop, length, map}
use Rattle.rel_algebra.specs.BodyChain.{assigns_if}
use Rattle.rel_algebra.specs.Joins.{places}
use Rattle.routine_views.specs.Views.{target}
use Rattle.plan_expressions.specs.Emission.{put}
use Rattle.plan_statements.proofs.storing.assigns_if.Given as goal

abbrev pub invariant-loop-target : goal.invariant-loop-target
invariant-loop-target l = put l.cells (assigns_if (l.aggregate ∷ places l.first l.count)
    (map target (drop l.target-index l.targets)) l.cell) ≡ assigns_if
    (l.aggregate ∷ places l.first (length l.targets)) (map target l.targets) l.first

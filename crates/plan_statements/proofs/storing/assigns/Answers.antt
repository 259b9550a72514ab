use Rattle.std.proofs.Common.{ℕ, List, map, refl}
use Rattle.bound_trees.specs.declared.statement.BoundTarget.{BoundTarget}
use Rattle.rel_algebra.specs.BodyChain.{assigns}
use Rattle.rel_algebra.specs.BodySteps.{col}
use Rattle.routine_views.specs.Views.{target}
use Rattle.plan_expressions.proofs.Laws.{scalar_of-Column}
use Rattle.plan_statements.proofs.Cells.{assigned_next, cells_done}
use Rattle.plan_statements.proofs.storing.assigns.Goals as goal

pub loop-target-preserved : goal.loop-target-preserved
loop-target-preserved c =
    assigned_next target assigns (λ (t : BoundTarget). t.data_type)
    (λ (t : BoundTarget) (m : ℕ). col m)
    (λ y ys m. refl) c.args.targets.now c.loop-target.target-index c.loop-target.cell
    c.in_ok-cell.cell _ c.loop-target.cells c.push.new.self c.in_ok-assigned.field-0 _
    (assigns (map target c.args.targets.now) c.args.first) c.loop-target-test.true
    c.in_ok-assigned.ensures (scalar_of-Column 0 c.loop-target.cell) c.in_ok-push.ensures.ok
    c.in_ok-cell.ensures c.loop-target.invariant

pub returns : goal.returns
returns c =
    cells_done target assigns c.args.targets.now c.loop-target.target-index c.loop-target.cell
    c.loop-target.cells (assigns (map target c.args.targets.now) c.args.first)
    c.loop-target-test.false refl c.loop-target.invariant

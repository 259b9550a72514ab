use Rattle.std.proofs.Common.{◌∷◌, ℕ, length, map, refl}
use Rattle.bound_trees.specs.declared.statement.BoundTarget.{BoundTarget}
use Rattle.rel_algebra.specs.BodyChain.{assigns_if}
use Rattle.rel_algebra.specs.BodySteps.{col}
use Rattle.rel_algebra.specs.Emissions.{assigning, if_values}
use Rattle.rel_algebra.specs.Joins.{places}
use Rattle.routine_views.specs.Views.{target}
use Rattle.plan_statements.proofs.Cells.{cells_done, cells_next}
use Rattle.plan_statements.proofs.storing.assigns_if.Goals as goal

pub loop-target-preserved : goal.loop-target-preserved
loop-target-preserved c =
    let all = c.args.aggregate ∷ places c.args.first (length c.args.targets.now) in
    cells_next target (assigns_if all)
    (λ (t : BoundTarget) (m : ℕ). if_values all (assigning t.data_type (col m))) (λ y ys m. refl)
    c.args.targets.now c.loop-target.target-index c.loop-target.cell c.in_ok-cell.cell _
    c.loop-target.cells c.push.new.self c.in_ok-assigned_if.field-0
    (assigns_if all (map target c.args.targets.now) c.args.first) c.loop-target-test.true
    c.in_ok-assigned_if.ensures c.in_ok-push.ensures.ok c.in_ok-cell.ensures
    c.loop-target.invariant

pub returns : goal.returns
returns c =
    let all = c.args.aggregate ∷ places c.args.first (length c.args.targets.now) in
    cells_done target (assigns_if all) c.args.targets.now c.loop-target.target-index
    c.loop-target.cell c.loop-target.cells (assigns_if all (map target c.args.targets.now)
    c.args.first) c.loop-target-test.false refl c.loop-target.invariant

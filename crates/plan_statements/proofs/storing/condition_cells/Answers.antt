use Rattle.std.proofs.Common.{ℕ, List, map, refl, ap, ◌∙◌}
use Rattle.bound_trees.specs.declared.condition.BoundConditionRead.{BoundConditionRead}
use Rattle.rel_algebra.specs.Bodies.{ConditionRead}
use Rattle.rel_algebra.specs.BodyChain.{condition_cells, item_cell}
use Rattle.rel_algebra.specs.OnConditions.{ItemWord, state_item}
use Rattle.rel_algebra.specs.Plan.{more}
use Rattle.rel_algebra.specs.PlanView.{scalar_of}
use Rattle.routine_views.specs.Views.{condition_item_of, condition_read}
use Rattle.plan_statements.specs.Statements.{word_for}
use Rattle.plan_statements.proofs.Cells.{assigned_next, cells_done}
use Rattle.plan_statements.proofs.storing.condition_cells.Goals as goal

pub loop-read-preserved : goal.loop-read-preserved
loop-read-preserved c =
    let i = c.args.number in let p = c.args.column in
    assigned_next condition_read (λ (rs : List ConditionRead) (m : ℕ). condition_cells rs i p)
    (λ (r : BoundConditionRead). r.target.data_type)
    (λ (r : BoundConditionRead) (m : ℕ). item_cell (word_for (condition_item_of r.item)) i p)
    (λ y ys m. refl) c.args.reads.now c.loop-read.read-index 0 1 _ c.loop-read.cells
    c.push.new.self c.in_ok-assigned.field-0 (scalar_of c.in_ok-cell.cell)
    (more (item_cell state_item i p) (condition_cells (map condition_read c.args.reads.now) i p))
    c.loop-read-test.true c.in_ok-assigned.ensures
    (c.in_ok-cell.ensures ∙ ap (λ (w : ItemWord). item_cell w i p) c.word_of.ensures)
    c.in_ok-push.ensures.ok refl c.loop-read.invariant

pub returns : goal.returns
returns c =
    let i = c.args.number in let p = c.args.column in
    cells_done condition_read (λ (rs : List ConditionRead) (m : ℕ). condition_cells rs i p)
    c.args.reads.now c.loop-read.read-index 0 c.loop-read.cells (more (item_cell state_item i p) (condition_cells
    (map condition_read c.args.reads.now) i p)) c.loop-read-test.false refl c.loop-read.invariant

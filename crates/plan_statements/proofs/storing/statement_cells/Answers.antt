use Rattle.std.proofs.Common.{ℕ, List, map, refl}
use Rattle.bound_trees.specs.declared.condition.BoundStatementRead.{BoundStatementRead}
use Rattle.rel_algebra.specs.Bodies.{StatementRead}
use Rattle.rel_algebra.specs.BodyChain.{statement_cell, statement_cells}
use Rattle.rel_algebra.specs.PlanView.{scalar_of}
use Rattle.routine_views.specs.Views.{statement_item_of, statement_read}
use Rattle.plan_statements.proofs.Cells.{assigned_next, cells_done}
use Rattle.plan_statements.proofs.storing.statement_cells.Goals as goal

pub loop-read-preserved : goal.loop-read-preserved
loop-read-preserved c =
    assigned_next statement_read
    (λ (rs : List StatementRead) (m : ℕ). statement_cells rs c.args.column)
    (λ (r : BoundStatementRead). r.target.data_type)
    (λ (r : BoundStatementRead) (m : ℕ). statement_cell (statement_item_of r.item) c.args.column)
    (λ y ys m. refl) c.args.reads.now c.loop-read.read-index 0 1 _ c.loop-read.cells
    c.push.new.self c.in_ok-assigned.field-0 (scalar_of c.in_ok-cell.cell)
    (statement_cells (map statement_read c.args.reads.now) c.args.column) c.loop-read-test.true
    c.in_ok-assigned.ensures c.in_ok-cell.ensures c.in_ok-push.ensures.ok refl
    c.loop-read.invariant

pub returns : goal.returns
returns c =
    cells_done statement_read
    (λ (rs : List StatementRead) (m : ℕ). statement_cells rs c.args.column) c.args.reads.now
    c.loop-read.read-index 0 c.loop-read.cells (statement_cells (map statement_read
    c.args.reads.now) c.args.column) c.loop-read-test.false refl c.loop-read.invariant

use Rattle.plan_rows.proofs.Outcomes.{cell_as_defined}
use Rattle.plan_rows.proofs.cells.unary_value.Goals as goal

pub returns-in-Cast : goal.returns-in-Cast
returns-in-Cast c = rw c.in-Cast.is (c.outcome_cell-in-Cast.ensures _
    (cell_as_defined _ _ c.cast.ensures))

pub returns-in_ok-copied-in-Assign : goal.returns-in_ok-copied-in-Assign
returns-in_ok-copied-in-Assign c =
    rw (c.in-Assign.is, ← c.in_ok-copied-in-Assign.ensures)
    (c.outcome_cell-in-Assign.ensures _ (cell_as_defined _ _ c.assign.ensures))

use Rattle.plan_rows.proofs.Outcomes.{cell_as_defined}
use Rattle.plan_rows.proofs.cells.arithmetic_cell.Goals as goal

pub returns-in-Val-Val : goal.returns-in-Val-Val
returns-in-Val-Val c = rw (c.in-Val-Val.is-0, c.in-Val-Val.is-1)
    (c.outcome_cell.ensures _ (cell_as_defined _ _ c.apply.ensures))

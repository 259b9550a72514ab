use Rattle.std.proofs.Common.{◌≡◌, drop}
use Rattle.row_types.specs.Cells.{cells_end}
use Rattle.row_types.proofs.Ends.{with_values}
use Rattle.row_types.proofs.plan_row.end_of_cells.Given as goal

abbrev pub invariant-loop-cell : goal.invariant-loop-cell
invariant-loop-cell l = with_values l.values (cells_end (drop l.cell-index l.cells)) ≡
    cells_end l.cells

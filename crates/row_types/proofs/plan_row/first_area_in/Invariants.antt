use Rattle.std.proofs.Common.{◌≡◌, drop}
use Rattle.row_types.specs.Cells.{area_in}
use Rattle.row_types.proofs.plan_row.first_area_in.Given as goal

abbrev pub invariant-loop-cell : goal.invariant-loop-cell
invariant-loop-cell l = area_in (drop l.cell-index l.cells) ≡ area_in l.cells

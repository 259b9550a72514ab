use Rattle.std.proofs.Common.{◌≡◌, drop}
use Rattle.std.specs.List.{list_all}
use Rattle.row_types.specs.Cells.{is_value}
use Rattle.row_types.proofs.gather.are_values.Given as goal

abbrev pub invariant-loop-cell : goal.invariant-loop-cell
invariant-loop-cell l = list_all is_value (drop l.cell-index l.cells) ≡ list_all is_value l.cells

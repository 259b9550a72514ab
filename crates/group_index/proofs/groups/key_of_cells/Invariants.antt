use Rattle.std.proofs.Common.{◌≡◌, ◌++◌, map, drop}
use Rattle.row_types.specs.declared.cell.Cell.TheVariants.{Val}
use Rattle.group_index.specs.Indexed.{cells_at_places}
use Rattle.group_index.proofs.groups.key_of_cells.Given as goal

abbrev pub invariant-loop-column : goal.invariant-loop-column
invariant-loop-column l = map Val l.key ++ cells_at_places l.row (drop l.column-index l.columns) ≡
    cells_at_places l.row l.columns

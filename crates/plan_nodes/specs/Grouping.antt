-- The rows of groups: of each its grouping columns, and then its aggregates. ISO/IEC 9075-2, 7.13
-- (group by clause).
use Rattle.std.specs.Prelude.{List, map, ◌++◌}
use Rattle.sql_values.specs.Values.{Outcome}
use Rattle.row_types.specs.declared.cell.Cell.{Cell}
use Rattle.row_types.specs.declared.cell.Cell.TheVariants.{Val}
use Rattle.row_types.specs.Cells.{PlanRow, Whole}
use Rattle.rel_algebra.specs.Endings.{cell_end, ending_of}
use Rattle.group_index.specs.declared.finished_group.FinishedGroup.{FinishedGroup}

-- one that raises is a condition cell
abbrev pub end_cells : List Outcome → List Cell
end_cells ends = map (λ (e : Outcome). cell_end (ending_of e)) ends

-- the row of a group: its grouping columns, and then the cells of its aggregates
abbrev pub group_row : FinishedGroup → PlanRow
group_row g = Whole (map Val g.key ++ end_cells g.ends)

-- the rows of groups, in the order of the groups
abbrev pub groups_rows : List FinishedGroup → List PlanRow
groups_rows gs = map group_row gs

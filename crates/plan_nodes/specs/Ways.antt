-- The final cells of a row, and its way to them.
use Rattle.std.specs.Prelude.{List, ◌++◌}
use Rattle.sql_values.specs.declared.value.Value.{Value}
use Rattle.row_types.specs.declared.cell.Cell.{Cell}
use Rattle.row_types.specs.Cells.{PlanRow}
use Rattle.rel_algebra.specs.Joins.{places}
use Rattle.rel_algebra.specs.Plan.{cells_of, cells_at, each}
use Rattle.rel_algebra.specs.PlanView.{scalars_of}
use Rattle.plan_scalars.specs.Sights.{sight_of}
use Rattle.plan_nodes.specs.declared.last.Last.{Last}
use Rattle.plan_nodes.specs.declared.last.Last.TheVariants.{Whole, Picked, Front}
use Rattle.plan_nodes.specs.declared.last.Way.{Way}
use Rattle.plan_nodes.specs.Fates.{RowOutcome, Stays, fate, fate_rows, go_on}

-- the row's own, or those picked of it with the cells of scalars after its own
abbrev pub last_cells : Last → List Cell → List (List Cell) → List Value → List Cell
last_cells Whole row outer args = row
last_cells (Picked scalars places) row outer args =
    cells_at (row ++ cells_of (scalars_of scalars.now) (sight_of row outer args)) places.now
last_cells (Front count) row outer args = cells_at row (places 0 count)

-- what becomes of a row on a way
abbrev pub way_fate : Way → List Cell → List (List Cell) → List Value → RowOutcome
way_fate way row outer args = go_on (fate way.nodes.now row outer args)
    (λ r. Stays (last_cells way.last r outer args))

-- the rows that come of rows on a way
abbrev pub way_rows : Way → List (List Cell) → List Value → List PlanRow → List PlanRow
way_rows way outer args rows = each (λ row. fate_rows (way_fate way row outer args)) rows

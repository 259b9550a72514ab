-- What becomes of one row on its way through nodes that act row by row.
use Rattle.std.specs.Prelude.{Bool, true, false, List, [], ◌∷◌, ◌++◌}
use Rattle.sql_values.specs.declared.value.Value.{Value}
use Rattle.sql_conditions.specs.Conditions.{Area}
use Rattle.row_types.specs.declared.cell.Cell.{Cell}
use Rattle.row_types.specs.Cells.{PlanRow, Whole, Poisoned}
use Rattle.rel_algebra.specs.declared.plan.Node.{Node}
use Rattle.rel_algebra.specs.declared.plan.Node.TheVariants.{Extend, Filter, Keep}
use Rattle.rel_algebra.specs.Plan.{cell_of, cells_of, cells_at, each}
use Rattle.rel_algebra.specs.PlanView.{scalar_of, scalars_of}
use Rattle.plan_scalars.specs.Sights.{sight_of}
use Rattle.plan_rows.specs.declared.tests.Tested.{Tested}
use Rattle.plan_rows.specs.declared.tests.Tested.TheVariants as test
use Rattle.plan_rows.specs.Tests.{test_of}

-- it stays, with these cells; or it is left out; or deciding on it raises
pub data RowOutcome : Type 0 where
  Stays : List Cell → RowOutcome
  Gone : RowOutcome
  Raises : Area → RowOutcome

-- what becomes of a row by what its test says
abbrev pub tested_fate : Tested → List Cell → RowOutcome
tested_fate test.Stays row = Stays row
tested_fate test.Gone row = Gone
tested_fate (test.Raises area) row = Raises area

-- a row that was tested, by the cell of its test
abbrev pub tested : Cell → List Cell → RowOutcome
tested cell row = tested_fate (test_of cell) row

-- what a node makes of a row; one that takes whole lists does nothing
abbrev pub node_fate : Node → List Cell → List (List Cell) → List Value → RowOutcome
node_fate (Extend ss) row outer args = Stays (row ++ cells_of (scalars_of ss)
    (sight_of row outer args))
node_fate (Filter s) row outer args = tested (cell_of (scalar_of s) (sight_of row outer args)) row
node_fate (Keep places) row outer args = Stays (cells_at row places)
node_fate _ row outer args = Stays row

-- goes on with a row that stays
abbrev pub go_on : RowOutcome → (List Cell → RowOutcome) → RowOutcome
go_on (Stays row) more = more row
go_on Gone more = Gone
go_on (Raises area) more = Raises area

-- what nodes make of a row, the first of them first
abbrev pub fate : List Node → List Cell → List (List Cell) → List Value → RowOutcome
fate [] row outer args = Stays row
fate (n ∷ ns) row outer args = go_on (node_fate n row outer args) (λ r. fate ns r outer args)

-- the rows that come of it
abbrev pub fate_rows : RowOutcome → List PlanRow
fate_rows (Stays row) = Whole row ∷ []
fate_rows Gone = []
fate_rows (Raises area) = Poisoned area ∷ []

-- the rows that nodes make of rows
abbrev pub passed : List Node → List (List Cell) → List Value → List PlanRow → List PlanRow
passed ns outer args rows = each (λ row. fate_rows (fate ns row outer args)) rows

-- a node that leaves no row out
abbrev pub keeps : Node → Bool
keeps (Filter s) = false
keeps _ = true

-- a node that acts on each row alone
abbrev pub by_row : Node → Bool
by_row (Extend ss) = true
by_row (Filter s) = true
by_row (Keep places) = true
by_row _ = false

-- What a test decides of its row. ISO/IEC 9075-2, 7.12 (where clause).
use Rattle.std.specs.Prelude.{List, [], ◌∷◌, if◌then◌else◌}
use Rattle.sql_values.specs.Values.{is_true}
use Rattle.row_types.specs.declared.cell.Cell.{Cell}
use Rattle.row_types.specs.declared.cell.Cell.TheVariants.{Val, Cond}
use Rattle.row_types.specs.Cells.{PlanRow, Whole, Poisoned}
use Rattle.plan_rows.specs.declared.tests.Tested.{Tested}
use Rattle.plan_rows.specs.declared.tests.Tested.TheVariants.{Stays, Gone, Raises}

-- by the cell of the test: TRUE alone lets the row stay, and a condition is neither true nor false
abbrev pub test_of : Cell → Tested
test_of (Val v) = if is_true v then Stays else Gone
test_of (Cond area) = Raises area

-- the rows that come of a row by what its test says: itself, none, or one poisoned row
abbrev pub tested_rows : Tested → List Cell → List PlanRow
tested_rows Stays row = Whole row ∷ []
tested_rows Gone row = []
tested_rows (Raises area) row = Poisoned area ∷ []

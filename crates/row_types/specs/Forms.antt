-- How the rows of plans lie in memory, and what comes of them.
use Rattle.std.specs.Prelude.{List, map, Result, Ok, Err}
use Rattle.sql_values.specs.declared.value.Value.{Value}
use Rattle.sql_conditions.specs.Conditions.{Area}
use Rattle.row_types.specs.declared.plan_row.Form.{Form}
use Rattle.row_types.specs.declared.plan_row.Form.TheVariants.{Values, Cells}
use Rattle.row_types.specs.declared.plan_row.Form.TheVariants.{Poisoned as PoisonedBy}
use Rattle.row_types.specs.declared.plan_row.RowEnd.{RowEnd}
use Rattle.row_types.specs.declared.plan_row.RowEnd.TheVariants.{Values as ValuesOf, Raised}
use Rattle.row_types.specs.declared.cell.Cell.TheVariants.{Val}
use Rattle.row_types.specs.Cells.{PlanRow, Whole, Poisoned}

-- the row that a form is
abbrev pub plan_row_of : Form → PlanRow
plan_row_of (Values values) = Whole (map Val values)
plan_row_of (Cells cells) = Whole cells
plan_row_of (PoisonedBy area) = Poisoned area

-- the values, or the area
abbrev pub end_of : RowEnd → Result (List Value) Area
end_of (ValuesOf values) = Ok values
end_of (Raised area) = Err area

-- What rows come to where a condition may stand among them, and which of them is the first.
use Rattle.std.specs.Prelude.{Bool, true, false, List, Ok, Err}
use Rattle.row_types.specs.Rows.{Row}
use Rattle.row_types.specs.declared.cell.Cell.{Cell}
use Rattle.row_types.specs.declared.cell.Cell.TheVariants.{Val, Cond}
use Rattle.rel_algebra.specs.Endings.{Ending}
use Rattle.plan_rows.specs.declared.firsts.Values.{Values}
use Rattle.plan_rows.specs.declared.firsts.Values.TheVariants as values

-- the values of the rows, or the first area among them
abbrev pub values_end : Values → Ending (List Row)
values_end (values.Rows rows) = Ok rows
values_end (values.Raised area) = Err area

-- a cell that is a value, and no condition
abbrev pub is_value : Cell → Bool
is_value (Val v) = true
is_value (Cond area) = false

-- What a cell is as a test. ISO/IEC 9075-2, 6.12 (case expression) and 8.21 (search condition).
use Rattle.std.specs.Prelude.{Bool, Option, Some, None}
use Rattle.sql_values.specs.Values.{is_true}
use Rattle.row_types.specs.declared.cell.Cell.{Cell}
use Rattle.row_types.specs.declared.cell.Cell.TheVariants.{Val, Cond}

-- whether it is TRUE; a condition is raised, and decides nothing
abbrev pub truth_of : Cell → Option Bool
truth_of (Val v) = Some (is_true v)
truth_of (Cond area) = None

-- One comparison of a value that is looked for among scalars. ISO/IEC 9075-2, 8.4 (in predicate).
use Rattle.std.specs.Prelude.{◌≡◌, true, false}
use Rattle.sql_values.specs.declared.value.Value.{Value}
use Rattle.sql_values.specs.declared.operators.Comparison.TheVariants.{Equals}
use Rattle.sql_values.specs.Operators.{compared}
use Rattle.three_valued.specs.declared.truth.Truth.{Truth}
use Rattle.three_valued.specs.Truths.{truth_of_value}
use Rattle.row_types.specs.declared.cell.Cell.{Cell}
use Rattle.row_types.specs.declared.cell.Cell.TheVariants.{Val, Cond}

-- the truth value of a comparison of a value with a cell that is a value; of a condition none
abbrev pub IsEqualTo : Truth → Value → Cell → Type 0
IsEqualTo truth x (Val v) = truth ≡ truth_of_value (compared Equals x v)
IsEqualTo truth x (Cond area) = true ≡ false

-- Which results of a CASE are taken. ISO/IEC 9075-2, 6.12 (case expression).
use Rattle.std.specs.Prelude.{Bool, Option, Some, None}
use Rattle.sql_values.specs.declared.value.Value.{Value}
use Rattle.sql_values.specs.Values.{is_true}
use Rattle.rel_algebra.specs.Endings.{equal_values}

-- when a WHEN of CASE passes: it equals the operand of CASE, or without an operand is TRUE
abbrev pub passes_by : Option Value → Value → Bool
passes_by None = is_true
passes_by (Some operand) = λ test. is_true (equal_values operand test)

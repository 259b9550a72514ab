-- What words make of the values of all their operands. ISO/IEC 9075-2, 6.12 (case expression).
use Rattle.std.specs.Prelude.{List, Ok}
use Rattle.sql_values.specs.declared.value.Value.{Value}
use Rattle.sql_values.specs.declared.value.Value.TheVariants.{Null}
use Rattle.rel_algebra.specs.Endings.{Ending, op_value}
use Rattle.catalog_store.specs.View.{Standing, over_all}

-- what a word makes of the values of all its operands; a construct doesn't take all, and is never
-- asked
abbrev pub strict_value : Standing → List Value → Ending Value
strict_value (over_all operation) values = op_value operation values
strict_value _ values = Ok Null

-- Comparisons of columns of a row with values. ISO/IEC 9075-2, 8.2 (comparison predicate).
use Rattle.std.specs.Prelude.{Bool, not, List, slice_index_or}
use Rattle.std.specs.List.{list_any}
use Rattle.sql_values.specs.declared.value.Value.{Value}
use Rattle.sql_values.specs.declared.value.Value.TheVariants.{Null}
use Rattle.sql_values.specs.declared.operators.Comparison.{Comparison}
use Rattle.sql_values.specs.declared.operators.Comparison.TheVariants.{Equals, NotEquals, LessThan}
use Rattle.sql_values.specs.declared.operators.Comparison.TheVariants.{LessThanOrEquals}
use Rattle.sql_values.specs.declared.operators.Comparison.TheVariants.{GreaterThan}
use Rattle.sql_values.specs.declared.operators.Comparison.TheVariants.{GreaterThanOrEquals}
use Rattle.sql_values.specs.Operators.{compared}
use Rattle.sql_values.specs.Values.{is_true}
use Rattle.row_types.specs.Rows.{Row}
use Rattle.plan_keys.specs.declared.terms.Term.{Term}

-- the comparison of the two sides in the other order
abbrev pub turned : Comparison → Comparison
turned Equals = Equals
turned NotEquals = NotEquals
turned LessThan = GreaterThan
turned LessThanOrEquals = GreaterThanOrEquals
turned GreaterThan = LessThan
turned GreaterThanOrEquals = LessThanOrEquals

-- the truth value of a comparison on a row
abbrev pub said : Term → Row → Value
said t row = compared t.comparison (slice_index_or row t.place Null) t.value

-- it is true there
abbrev pub holds : Term → Row → Bool
holds t row = is_true (said t row)

-- one of several is not
abbrev pub misses : List Term → Row → Bool
misses ts row = list_any (λ t. not (holds t row)) ts

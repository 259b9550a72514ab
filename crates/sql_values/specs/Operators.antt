-- What operators and comparisons give.
use Rattle.std.specs.Prelude.{Bool, true, false, Option, Some, None}
use Rattle.std.specs.declared.cmp.Ordering.{Ordering}
use Rattle.std.specs.declared.cmp.Ordering.TheVariants.{Less, Equal, Greater}
use Rattle.sql_values.specs.declared.value.Value.{Value}
use Rattle.sql_values.specs.declared.value.Value.TheVariants.{Null, Bool as Truth}
use Rattle.sql_values.specs.declared.operators.Operator.{Operator}
use Rattle.sql_values.specs.declared.operators.Operator.TheVariants.{Add, Subtract, Multiply}
use Rattle.sql_values.specs.declared.operators.Operator.TheVariants.{Divide, Concatenate}
use Rattle.sql_values.specs.declared.operators.Comparison.{Comparison}
use Rattle.sql_values.specs.declared.operators.Comparison.TheVariants.{Equals, NotEquals, LessThan}
use Rattle.sql_values.specs.declared.operators.Comparison.TheVariants.{LessThanOrEquals}
use Rattle.sql_values.specs.declared.operators.Comparison.TheVariants.{GreaterThan}
use Rattle.sql_values.specs.declared.operators.Comparison.TheVariants.{GreaterThanOrEquals}
use Rattle.sql_values.specs.Values.{Outcome, sum_of, difference_of, product_of, quotient_of}
use Rattle.sql_values.specs.Values.{order_of}
use Rattle.sql_values.specs.Texts.{concatenation_of}

-- what an operator gives of two values, or its fault
abbrev pub applied : Operator → Value → Value → Outcome
applied Add a b = sum_of a b
applied Subtract a b = difference_of a b
applied Multiply a b = product_of a b
applied Divide a b = quotient_of a b
applied Concatenate a b = concatenation_of a b

-- the comparison is true of two values in this order
abbrev pub allows : Comparison → Ordering → Bool
allows Equals Less = false
allows Equals Equal = true
allows Equals Greater = false
allows NotEquals Less = true
allows NotEquals Equal = false
allows NotEquals Greater = true
allows LessThan Less = true
allows LessThan Equal = false
allows LessThan Greater = false
allows LessThanOrEquals Less = true
allows LessThanOrEquals Equal = true
allows LessThanOrEquals Greater = false
allows GreaterThan Less = false
allows GreaterThan Equal = false
allows GreaterThan Greater = true
allows GreaterThanOrEquals Less = false
allows GreaterThanOrEquals Equal = true
allows GreaterThanOrEquals Greater = true

-- the truth value of a comparison of two values in this order; unknown without one
abbrev pub truth_in : Comparison → Option Ordering → Value
truth_in comparison None = Null
truth_in comparison (Some order) = Truth (allows comparison order)

-- TRUE or FALSE, or unknown where an operand is NULL
abbrev pub compared : Comparison → Value → Value → Value
compared comparison a b = truth_in comparison (order_of a b)

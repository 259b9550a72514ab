-- Places between rows in key order, given by values of the first key columns.
use Rattle.std.specs.Prelude.{ℕ, Bool, true, false, not, ◌||◌, ◌&&◌, List, length, take}
use Rattle.std.specs.Ordering.{is_eq, is_lt}
use Rattle.std.specs.declared.cmp.Ordering.{Ordering}
use Rattle.sql_values.specs.declared.value.Value.{Value}
use Rattle.sql_values.specs.declared.operators.Comparison.{Comparison}
use Rattle.sql_values.specs.declared.operators.Comparison.TheVariants.{LessThan, LessThanOrEquals}
use Rattle.sql_values.specs.declared.operators.Comparison.TheVariants.{GreaterThan}
use Rattle.sql_values.specs.declared.operators.Comparison.TheVariants.{GreaterThanOrEquals}
use Rattle.row_types.specs.Rows.{Row, to_key}

-- by how a row stands to the values: it has less, or, where the place is after ties, not more
abbrev pub before : Bool → Ordering → Bool
before through order = is_lt order || (through && is_eq order)

-- a row stands before the place
abbrev pub stands_before : List ℕ → List Value → Bool → Row → Bool
stands_before key sought through row =
    before through (to_key (take (length sought) key) sought row)

-- it doesn't
abbrev pub is_past : List ℕ → List Value → Bool → Row → Bool
is_past key sought through row = not (stands_before key sought through row)

-- a comparison bounds a column: the high side, or the low one
abbrev pub bounds_on : Bool → Comparison → Bool
bounds_on true LessThan = true
bounds_on true LessThanOrEquals = true
bounds_on false GreaterThan = true
bounds_on false GreaterThanOrEquals = true
bounds_on high comparison = false

-- the place of its bound is after the rows that have the value
abbrev pub takes_ties : Bool → Comparison → Bool
takes_ties true LessThanOrEquals = true
takes_ties false GreaterThan = true
takes_ties high comparison = false

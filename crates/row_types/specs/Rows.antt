-- Rows of values, their keys and the order of keys.
-- ISO/IEC 9075-2, 4.14 (tables) and 8.2 (comparison predicate).
use Rattle.std.specs.Prelude.{ℕ, ◌&&◌, Bool, true, false, not, List, [], ◌∷◌, map, slice_index_or}
use Rattle.std.specs.Prelude.{length, nat_le, nat_lt}
use Rattle.std.specs.List.{list_all}
use Rattle.std.specs.Ordering.{int_cmp, bool_cmp, nat_cmp}
use Rattle.std.specs.Cmp.Lexicographic.{slice_cmp}
use Rattle.std.specs.declared.cmp.Ordering.{Ordering}
use Rattle.sql_values.specs.declared.value.Value.{Value}
use Rattle.sql_values.specs.declared.value.Value.TheVariants.{Null, Int, Str, Bool as Truth}
use Rattle.sql_values.specs.declared.value.SqlType.{SqlType}
use Rattle.sql_values.specs.declared.value.SqlType.TheVariants.{Integer, Varchar, Boolean}
use Rattle.sql_values.specs.Values.{is_null, text_cmp}
use Rattle.row_types.specs.declared.ColumnType.{ColumnType}
use Rattle.row_types.specs.Ordered.{rises}

-- a value for each column, in the table's order
abbrev pub Row : Type 0
Row = List Value

-- which kinds of values come first: NULL, then truth values, then numbers, then texts
abbrev pub rank : Value → ℕ
rank Null = 0
rank (Truth p) = 1
rank (Int n) = 2
rank (Str s) = 3

-- All values in one order: those of one kind in the order of the kind, and others by their kinds.
-- No key has NULL.
abbrev pub value_cmp : Value → Value → Ordering
value_cmp (Truth p) (Truth q) = bool_cmp p q
value_cmp (Int m) (Int n) = int_cmp m n
value_cmp (Str s) (Str t) = text_cmp s t
value_cmp a b = nat_cmp (rank a) (rank b)

-- the values at the places of the key columns
abbrev pub key_of : List ℕ → Row → List Value
key_of key row = map (λ i. slice_index_or row i Null) key

-- keys are compared whole, column by column
abbrev pub by_key : List ℕ → Row → Row → Ordering
by_key key a b = slice_cmp value_cmp (key_of key a) (key_of key b)

-- how a row stands to a key
abbrev pub to_key : List ℕ → List Value → Row → Ordering
to_key key sought row = slice_cmp value_cmp (key_of key row) sought

-- the value is one of the type, a text where it is not too long; NULL is one of each
abbrev pub is_of : SqlType → Value → Bool
is_of t Null = true
is_of Integer (Int n) = true
is_of (Varchar most) (Str s) = nat_le (length s) most
is_of Boolean (Truth p) = true
is_of t v = false

-- a column takes the value
abbrev pub takes : ColumnType → Value → Bool
takes c v = is_of c.data_type v && not (c.not_null && is_null v)

-- as many values as columns, and each column takes its own
abbrev pub take_all : List ColumnType → Row → Bool
take_all [] [] = true
take_all [] (v ∷ vs) = false
take_all (c ∷ cs) [] = false
take_all (c ∷ cs) (v ∷ vs) = takes c v && take_all cs vs

-- a row fits: each column takes its value, and no value of the key is NULL
abbrev pub fits : List ColumnType → List ℕ → Row → Bool
fits columns key row = take_all columns row && list_all (λ v. not (is_null v)) (key_of key row)

-- each place of the key is a column's
abbrev pub has_key_columns : List ColumnType → List ℕ → Bool
has_key_columns columns key = list_all (λ i. nat_lt i (length columns)) key

-- rows that a table may hold: each fits, and their keys rise
abbrev pub well_kept : List ColumnType → List ℕ → List Row → Bool
well_kept columns key rows = list_all (fits columns key) rows && rises (by_key key) rows

-- The places of rows. ISO/IEC 9075-2, 10.10 (sort specification list).
use Rattle.std.specs.Prelude.{ℕ, suc, List, [], ◌∷◌, map, slice_index_or}
use Rattle.std.specs.declared.cmp.Ordering.{Ordering}
use Rattle.sql_values.specs.declared.value.Value.{Value}
use Rattle.sql_values.specs.declared.value.Value.TheVariants.{Null}
use Rattle.row_types.specs.Rows.{Row}

-- the row at a place, counted from 0; one without values past the last
abbrev pub row_at : List Row → ℕ → Row
row_at rows place = slice_index_or rows place []

-- the rows at places, in turn
abbrev pub rows_at : List Row → List ℕ → List Row
rows_at rows places = map (row_at rows) places

-- the value at a column of the row at a place; NULL where there is none
abbrev pub value_at : List Row → ℕ → ℕ → Value
value_at rows column place = slice_index_or (row_at rows place) column Null

-- how the rows at two places stand
abbrev pub at_places : (Row → Row → Ordering) → List Row → ℕ → ℕ → Ordering
at_places cmp rows m n = cmp (row_at rows m) (row_at rows n)

-- as many places as rows, counted from a number on
abbrev pub places_from : ℕ → List Row → List ℕ
places_from n [] = []
places_from n (row ∷ rows) = n ∷ places_from (suc n) rows

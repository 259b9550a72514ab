-- New rows in key order. What an INSERT makes of a table does not hang on the order in which its
-- rows are put, where no key stands twice.
use Rattle.std.specs.Prelude.{ℕ, ℤ, pos, suc, ◌≡◌, Bool, true, false, nat_eq, List, [], ◌∷◌, ◌++◌}
use Rattle.std.specs.Prelude.{map, Option, Some, None, slice_get, slice_index_or, if◌then◌else◌}
use Rattle.std.specs.List.Sorted.{IsPermutation}
use Rattle.std.specs.Ordering.{int_cmp, ordering_then}
use Rattle.std.specs.declared.cmp.Ordering.{Ordering}
use Rattle.row_types.specs.Ordered.{in_order, first_repeat}
use Rattle.row_types.specs.Rows.{Row, key_of, by_key}
use Rattle.sql_values.specs.declared.value.Value.{Value}
use Rattle.sql_values.specs.declared.value.Value.TheVariants.{Null, Int, Str, Bool as Truth}
use Rattle.sql_values.specs.declared.value.SqlType.{SqlType}
use Rattle.sql_values.specs.declared.value.SqlType.TheVariants.{Varchar}
use Rattle.row_types.specs.declared.ColumnType.{ColumnType}
use Rattle.atomic_undo.specs.declared.sorted.Placed.{Placed}

-- a number that rises with a value, among the values of a column that takes no NULL; of a text, its
-- first character
abbrev pub abbreviated : Value → ℤ
abbreviated Null = pos 0
abbreviated (Truth p) = if p then pos 1 else pos 0
abbreviated (Int n) = n
abbreviated (Str s) = pos (slice_index_or s 0 0)

-- that of the first value of a row's key
abbrev pub abbreviated_key : List ℕ → Row → ℤ
abbreviated_key key row = abbreviated (slice_index_or (key_of key row) 0 Null)

-- the type has no texts, so that its abbreviated values tell all values apart
abbrev pub is_without_texts : SqlType → Bool
is_without_texts (Varchar most) = false
is_without_texts t = true

-- there is a column, and its type has no texts
abbrev pub is_column_without_texts : Option ColumnType → Bool
is_column_without_texts None = false
is_column_without_texts (Some c) = is_without_texts c.data_type

-- abbreviated keys say all that the keys do: a key of one column, which has no texts
abbrev pub is_abbreviated_whole : List ColumnType → List ℕ → Bool
is_abbreviated_whole columns (place ∷ []) = is_column_without_texts (slice_get columns place)
is_abbreviated_whole columns key = false

-- the places of rows, counted from a number on, with their keys abbreviated
abbrev pub numbered_from : List ℕ → ℕ → List Row → List Placed
numbered_from key n [] = []
numbered_from key n (row ∷ rows) = record { place = n; abbreviated = abbreviated_key key row } ∷
    numbered_from key (suc n) rows

-- both stand at one place
abbrev pub have_one_place : Placed → Placed → Bool
have_one_place p q = nat_eq p.place q.place

-- the row at a place; one without values where there is none
abbrev pub row_at : List Row → Placed → Row
row_at rows p = slice_index_or rows p.place []

-- the rows at places, in turn
abbrev pub rows_at : List Row → List Placed → List Row
rows_at rows placed = map (row_at rows) placed

-- by the abbreviated keys, and where they tie by the whole keys
abbrev pub by_abbreviated : List ℕ → List Row → Placed → Placed → Ordering
by_abbreviated key rows p q = ordering_then (int_cmp p.abbreviated q.abbreviated)
    (by_key key (row_at rows p) (row_at rows q))

-- each place of the rows, once
abbrev pub IsOrder : List ℕ → List Row → List Placed → Type 0
IsOrder key rows placed = IsPermutation (numbered_from key 0 rows) placed

-- after old ones, the same comes of two lists
abbrev pub PutAlike : {X : Type 0} → (X → X → Ordering) → List X → List X → List X → Type 0
PutAlike cmp old xs ys =
    (first_repeat cmp (old ++ xs) ≡ first_repeat cmp (old ++ ys)) ×
    (first_repeat cmp (old ++ ys) ≡ None → in_order cmp (old ++ xs) ≡ in_order cmp (old ++ ys))

-- Worked rows: an order by two columns, with NULLs and ties. ISO/IEC 9075-2, 10.10 (sort
-- specification list).
use Rattle.std.specs.Prelude.{◌≡◌, ℕ, pos, true, false, List, [], ◌∷◌, codes}
use Rattle.std.proofs.Common.{refl}
use Rattle.sql_values.specs.declared.value.Value.TheVariants.{Null, Int, Str}
use Rattle.row_types.specs.Rows.{Row}
use Rattle.row_types.specs.Sorting.{in_order}
use Rattle.row_types.specs.declared.sort_key.SortKey.{SortKey}

-- an ascending order by the column at a place
abbrev up : ℕ → SortKey
up place = record { place = place; descending = false }

-- a descending order by the column at a place
abbrev down : ℕ → SortKey
down place = record { place = place; descending = true }

-- two columns, and a third that tells rows that tie apart
abbrev one : Row
one = Int (pos 2) ∷ Str (codes "b") ∷ Int (pos 1) ∷ []

-- NULL in the first column
abbrev two : Row
two = Null ∷ Str (codes "a") ∷ Int (pos 2) ∷ []

-- ties with the row one in the first column, and has NULL in the second
abbrev three : Row
three = Int (pos 2) ∷ Null ∷ Int (pos 3) ∷ []

-- ties with the row one in the first two columns
abbrev four : Row
four = Int (pos 2) ∷ Str (codes "b") ∷ Int (pos 4) ∷ []

-- the four rows as they come, in no order
abbrev rows : List Row
rows = one ∷ two ∷ three ∷ four ∷ []

-- without a sort key the rows stay as they came
no_column : in_order [] rows ≡ rows
no_column = refl

-- ascending NULL comes first, and the three rows of 2 keep their order
null_first : in_order (up 0 ∷ []) rows ≡ two ∷ one ∷ three ∷ four ∷ []
null_first = refl

-- descending NULL comes last, and rows that tie still keep their order
null_last : in_order (down 0 ∷ []) rows ≡ one ∷ three ∷ four ∷ two ∷ []
null_last = refl

-- the second key decides only among rows that tie in the first
ties_by_the_second : in_order (up 0 ∷ up 1 ∷ []) rows ≡ two ∷ three ∷ one ∷ four ∷ []
ties_by_the_second = refl

-- each key has its own direction
one_up_one_down : in_order (up 0 ∷ down 1 ∷ []) rows ≡ two ∷ one ∷ four ∷ three ∷ []
one_up_one_down = refl

-- a place that no row has: each value there is NULL
no_such_place : in_order (down 7 ∷ []) rows ≡ rows
no_such_place = refl

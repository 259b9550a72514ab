-- The values of a column as numbers, by which most comparisons are made. ISO/IEC 9075-2, 10.10
-- (sort specification list).
use Rattle.std.specs.Prelude.{ℕ, ℤ, pos, negsuc, ◌-◌, ◌^◌, Bool, true, false, not, ◌&&◌, ◌||◌, List}
use Rattle.std.specs.Prelude.{[], ◌∷◌, slice_index_or, if◌then◌else◌}
use Rattle.std.specs.List.{list_all}
use Rattle.std.specs.Ordering.{int_cmp, is_lt, ordering_then}
use Rattle.std.specs.declared.cmp.Ordering.{Ordering}
use Rattle.sql_values.specs.declared.value.Value.{Value}
use Rattle.sql_values.specs.declared.value.Value.TheVariants.{Null, Int, Str, Bool as Truth}
use Rattle.row_types.specs.Rows.{Row}
use Rattle.row_types.specs.Sorting.{keys_cmp}
use Rattle.row_types.specs.declared.sort_key.SortKey.{SortKey}
use Rattle.row_sort.specs.Places.{row_at, value_at}
use Rattle.row_sort.specs.declared.columns.Numbered.{Numbered}

-- the least number of 64 bits
abbrev pub least : ℤ
least = negsuc (2 ^ 63 - 1)

-- a number that says all of an integer or a truth value; that of NULL is the least
abbrev pub whole_number : Value → ℤ
whole_number Null = least
whole_number (Truth p) = if p then pos 1 else pos 0
whole_number (Int n) = n
whole_number (Str s) = pos 0

-- a number that rises with all values: integers have one, and of a text it is the first character
abbrev pub first_number : Value → ℤ
first_number Null = negsuc 3
first_number (Truth p) = if p then negsuc 1 else negsuc 2
first_number (Int n) = negsuc 0
first_number (Str s) = pos (slice_index_or s 0 0)

-- the number that stands for a value: the one that says all of it, or the one that only rises
abbrev pub number_by : Bool → Value → ℤ
number_by alone v = if alone then whole_number v else first_number v

-- the number says all of a value, among truth values or among integers
abbrev pub is_told : Bool → Value → Bool
is_told truths Null = true
is_told truths (Truth p) = truths
is_told truths (Int n) = not truths && is_lt (int_cmp least n)
is_told truths (Str s) = false

-- the values of a column are all truth values, or all integers, beside NULLs
abbrev pub are_told : Bool → List Row → ℕ → Bool
are_told truths rows column = list_all (λ row. is_told truths (slice_index_or row column Null)) rows

-- the numbers of a column say all of its values
abbrev pub tells : List Row → ℕ → Bool
tells rows column = are_told false rows column || are_told true rows column

-- a place with the value of a column as a number
abbrev pub numbered : Bool → List Row → ℕ → ℕ → Numbered
numbered alone rows column place = record {
  number = number_by alone (value_at rows column place);
  place = place;
}

-- the row's place, which the sort carries along
abbrev pub place_of : Numbered → ℕ
place_of one = one.place

-- by the numbers, turned in a descending order
abbrev pub by_number : Bool → Numbered → Numbered → Ordering
by_number descending p q = if descending then int_cmp q.number p.number else int_cmp p.number
    q.number

-- by the numbers, and where they tie by the values
abbrev pub by_value : SortKey → List Row → Numbered → Numbered → Ordering
by_value key rows p q = ordering_then (by_number key.descending p q)
    (keys_cmp (key ∷ []) (row_at rows p.place) (row_at rows q.place))

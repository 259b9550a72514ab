-- Worked rows: the order of values and of keys, rows that fit, the judgement of keys, and tables by
-- their names. ISO/IEC 9075-2, 4.14 (tables), 8.2 (comparison predicate), 14.11 (insert statement).
use Rattle.std.specs.Prelude.{◌≡◌, pos, negsuc, true, false, List, [], ◌∷◌, Some, None, Ok, Err}
use Rattle.std.specs.Prelude.{codes}
use Rattle.std.specs.declared.cmp.Ordering.TheVariants.{Less, Equal, Greater}
use Rattle.std.proofs.Common.{refl}
use Rattle.sql_values.specs.declared.value.Value.TheVariants.{Null, Int, Str, Bool as Truth}
use Rattle.sql_values.specs.declared.value.SqlType.TheVariants.{Integer, Varchar, Boolean}
use Rattle.row_types.specs.declared.ColumnType.{ColumnType}
use Rattle.row_types.specs.Ordered.{in_order, first_repeat, searched, rises}
use Rattle.row_types.specs.Rows.{Row, value_cmp, by_key, to_key, is_of, fits, has_key_columns}
use Rattle.row_types.specs.Rows.{well_kept}
use Rattle.row_types.specs.Tables.{Table, Tables, table_named, rows_named, with_rows_named}
use Rattle.row_types.specs.Tables.{without_table_named, place_named, table_at, with_rows_at}
use Rattle.row_types.specs.Writing.{refused_at, inserted}

-- ---- values: NULL, then truth values, then numbers, then texts

-- NULL stands before all values
null_first : value_cmp Null (Truth false) ≡ Less
null_first = refl

-- FALSE stands before TRUE
false_before_true : value_cmp (Truth true) (Truth false) ≡ Greater
false_before_true = refl

-- truth values stand before numbers
truth_before_numbers : value_cmp (Truth true) (Int (negsuc 4)) ≡ Less
truth_before_numbers = refl

-- numbers stand in their order, also below 0
negative_first : value_cmp (Int (negsuc 0)) (Int (pos 0)) ≡ Less
negative_first = refl

-- numbers stand before texts, whatever these spell
numbers_before_texts : value_cmp (Str (codes "1")) (Int (pos 2)) ≡ Greater
numbers_before_texts = refl

-- of texts the first difference decides, and not the length
first_difference_decides : value_cmp (Str (codes "b")) (Str (codes "aa")) ≡ Greater
first_difference_decides = refl

-- a text stands before one that goes on with a space
shorter_first : value_cmp (Str (codes "a")) (Str (codes "a ")) ≡ Less
shorter_first = refl

-- letters stand by their codes, capitals first
by_code_point : value_cmp (Str (codes "Z")) (Str (codes "a")) ≡ Less
by_code_point = refl

-- ---- keys: of one column, and of two, the second of them first

-- a row of two numbers
abbrev one : Row
one = Int (pos 1) ∷ Int (pos 7) ∷ []

-- a row of two numbers, the second of them as in the one before
abbrev two : Row
two = Int (pos 2) ∷ Int (pos 7) ∷ []

-- a row of two numbers, the first of them as in the one before
abbrev also_two : Row
also_two = Int (pos 2) ∷ Int (pos 5) ∷ []

-- by the first column alone the rows tie
by_first_column : by_key (0 ∷ []) two also_two ≡ Equal
by_first_column = refl

-- the second column decides, since it comes first in the key
by_both_columns : by_key (1 ∷ 0 ∷ []) one also_two ≡ Greater
by_both_columns = refl

-- where it ties, the first column decides
tie_in_the_second : by_key (1 ∷ 0 ∷ []) one two ≡ Less
tie_in_the_second = refl

-- a row stands before a greater key
to_a_key : to_key (0 ∷ []) (Int (pos 2) ∷ []) one ≡ Less
to_a_key = refl

-- ---- rows that fit: a key column, and one that may be NULL

-- K, which takes no NULL, and V, which does
abbrev columns : List ColumnType
columns = record { name = codes "K"; data_type = Integer; not_null = true } ∷
    record { name = codes "V"; data_type = Integer; not_null = false } ∷ []

-- both places are those of columns
key_column : has_key_columns columns (1 ∷ 0 ∷ []) ≡ true
key_column = refl

-- there is no third column
no_key_column : has_key_columns columns (0 ∷ 2 ∷ []) ≡ false
no_key_column = refl

-- a number for each column fits
one_fits : fits columns (0 ∷ []) one ≡ true
one_fits = refl

-- NULL in a column that takes it, outside the key
null_fits : fits columns (0 ∷ []) (Int (pos 1) ∷ Null ∷ []) ≡ true
null_fits = refl

-- no value of the key is NULL, even in a column that takes it
null_key : fits columns (1 ∷ []) (Int (pos 1) ∷ Null ∷ []) ≡ false
null_key = refl

-- NULL in a column that takes none
null_in_not_null : fits columns (1 ∷ []) (Null ∷ Int (pos 1) ∷ []) ≡ false
null_in_not_null = refl

-- a value too few
too_short : fits columns (0 ∷ []) (Int (pos 1) ∷ []) ≡ false
too_short = refl

-- a value too many
too_long : fits columns (0 ∷ []) (Int (pos 1) ∷ Null ∷ Null ∷ []) ≡ false
too_long = refl

-- a value of another type
truth_value_in_integer : fits columns (0 ∷ []) (Int (pos 1) ∷ Truth true ∷ []) ≡ false
truth_value_in_integer = refl

-- ---- values of types

-- a text of as many characters as the type has
text_within : is_of (Varchar 2) (Str (codes "ab")) ≡ true
text_within = refl

-- a space counts as a character
text_too_long : is_of (Varchar 2) (Str (codes "ab ")) ≡ false
text_too_long = refl

-- a number is no text
number_in_text : is_of (Varchar 2) (Int (pos 1)) ≡ false
number_in_text = refl

-- a text is no number, whatever it spells
text_in_integer : is_of Integer (Str (codes "1")) ≡ false
text_in_integer = refl

-- a number is no truth value
number_in_boolean : is_of Boolean (Int (pos 1)) ≡ false
number_in_boolean = refl

-- NULL is of each type
null_of_each : is_of (Varchar 1) Null ≡ true
null_of_each = refl

-- ---- keys with texts

-- a text and a number
abbrev ab_two : Row
ab_two = Str (codes "ab") ∷ Int (pos 2) ∷ []

-- a later text and a lesser number
abbrev b_one : Row
b_one = Str (codes "b") ∷ Int (pos 1) ∷ []

-- the texts decide
by_text : by_key (0 ∷ []) b_one ab_two ≡ Greater
by_text = refl

-- the numbers decide, since they come first in the key
by_number_and_text : by_key (1 ∷ 0 ∷ []) b_one ab_two ≡ Less
by_number_and_text = refl

-- a row with a longer text stands after the key
to_a_text_key : to_key (0 ∷ []) (Str (codes "a") ∷ []) ab_two ≡ Greater
to_a_text_key = refl

-- ---- rows in order

-- the lesser key comes first
rows_in_order : in_order (by_key (0 ∷ [])) (two ∷ one ∷ []) ≡ one ∷ two ∷ []
rows_in_order = refl

-- rows that fit, with keys that rise, may be a table's
they_rise : well_kept columns (0 ∷ []) (one ∷ two ∷ []) ≡ true
they_rise = refl

-- keys that tie don't rise
ties_rise_not : rises (by_key (0 ∷ [])) (two ∷ also_two ∷ []) ≡ false
ties_rise_not = refl

-- the third row, at place 2, has the key of the first
third_repeats : first_repeat (by_key (0 ∷ [])) (two ∷ one ∷ also_two ∷ []) ≡ Some 2
third_repeats = refl

-- by both columns all keys differ
none_repeats : first_repeat (by_key (1 ∷ 0 ∷ [])) (two ∷ one ∷ also_two ∷ []) ≡ None
none_repeats = refl

-- the key stands at place 1
found : searched (to_key (0 ∷ []) (Int (pos 2) ∷ [])) (one ∷ two ∷ []) ≡ Ok 1
found = refl

-- a greater key would go to place 2, the end
where_it_would_go : searched (to_key (0 ∷ []) (Int (pos 3) ∷ [])) (one ∷ two ∷ []) ≡ Err 2
where_it_would_go = refl

-- ---- what an INSERT stores

-- a table whose key is its first column
abbrev a : Table
a = record { columns = columns; key = 0 ∷ []; rows = two ∷ [] }

-- the new row goes in before the old one
stored : inserted a (one ∷ []) ≡ Some (one ∷ two ∷ [])
stored = refl

-- two new rows, of which the second has the old row's key: none is stored
refused : inserted a (one ∷ also_two ∷ []) ≡ None
refused = refl

-- the refusal names its place, where the old row comes first
refused_third : refused_at a (one ∷ also_two ∷ []) ≡ Some 2
refused_third = refl

-- ---- tables by their names

-- a table whose key is its second column
abbrev b : Table
b = record { columns = columns; key = 1 ∷ []; rows = [] }

-- two tables
abbrev both : Tables
both = record { name = codes "A"; table = a } ∷ record { name = codes "B"; table = b } ∷ []

-- the table of a name
second_table : table_named (codes "B") both ≡ Some b
second_table = refl

-- no table has this name
no_such_table : table_named (codes "C") both ≡ None
no_such_table = refl

-- where the name stands
second_place : place_named (codes "B") both ≡ Some 1
second_place = refl

-- rows are given by the name, or by its place
by_name_or_by_place : with_rows_named (codes "B") (one ∷ []) both ≡ with_rows_at 1 (one ∷ []) both
by_name_or_by_place = refl

-- what was given is read
other_rows : rows_named (codes "B") (with_rows_named (codes "B") (one ∷ []) both) ≡ one ∷ []
other_rows = refl

-- once the first table is gone, the second stands at its place
first_dropped : table_at (without_table_named (codes "A") both) 0 ≡ b
first_dropped = refl

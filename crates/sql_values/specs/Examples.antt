-- Worked rows, which hold by computation.
use Rattle.std.specs.Prelude.{◌≡◌, pos, negsuc, true, false, [], ◌∷◌, ◌-◌, ◌^◌, codes, Some, None}
use Rattle.std.specs.Prelude.{Ok, Err, refl}
use Rattle.std.specs.declared.cmp.Ordering.TheVariants.{Less, Greater}
use Rattle.sql_values.specs.declared.fold.FoldKind.TheVariants.{Count, Sum, Avg, Min, Max}
use Rattle.sql_values.specs.declared.operators.Comparison.TheVariants.{Equals}
use Rattle.sql_values.specs.declared.value.Value.{Value}
use Rattle.sql_values.specs.declared.value.Value.TheVariants.{Null, Int, Str, Bool as Truth}
use Rattle.sql_values.specs.declared.value.SqlType.TheVariants.{Integer, Varchar, Boolean}
use Rattle.sql_values.specs.declared.value.ValueFault.TheVariants.{TooLong, OutOfRange, DivZero}
use Rattle.sql_values.specs.declared.value.ValueFault.TheVariants.{BadCast, BadSubstring}
use Rattle.sql_values.specs.Casts.{assigned, cast_to}
use Rattle.sql_values.specs.Folds.{folded}
use Rattle.sql_values.specs.Operators.{compared}
use Rattle.sql_values.specs.Texts.{concatenation_of, substring_of}
use Rattle.sql_values.specs.Values.{order_of, quotient_of, remainder_of}

-- -2^63
abbrev least : Value
least = Int (negsuc (2 ^ 63 - 1))

-- 2^63-1
abbrev greatest : Value
greatest = Int (pos (2 ^ 63 - 1))

-- ---- numbers

-- the one quotient that is out of range
pub least_by_minus_one : quotient_of least (Int (negsuc 0)) ≡ Err OutOfRange
least_by_minus_one = refl

-- a remainder is never out of range
pub least_leaves_nothing : remainder_of least (Int (negsuc 0)) ≡ Ok (Int (pos 0))
least_leaves_nothing = refl

-- MOD(-7, 4) is -3
pub sign_of_the_dividend : remainder_of (Int (negsuc 6)) (Int (pos 4)) ≡ Ok (Int (negsuc 2))
sign_of_the_dividend = refl

-- NULL by zero is NULL
pub null_by_zero : quotient_of Null (Int (pos 0)) ≡ Ok Null
null_by_zero = refl

-- MOD by zero is a fault
pub nothing_left_of_zero : remainder_of (Int (pos 1)) (Int (pos 0)) ≡ Err DivZero
nothing_left_of_zero = refl

-- ---- order

-- FALSE stands before TRUE
pub false_first : order_of (Truth false) (Truth true) ≡ Some Less
false_first = refl

-- a text stands after its own beginning
pub longer_after : order_of (Str (codes "ab")) (Str (codes "a")) ≡ Some Greater
longer_after = refl

-- no padding: a space counts
pub space_counts : order_of (Str (codes "a")) (Str (codes "a ")) ≡ Some Less
space_counts = refl

-- NULL = NULL is unknown
pub null_is_not_null : compared Equals Null Null ≡ Null
null_is_not_null = refl

-- ---- texts

-- an empty text adds nothing
pub empty_joined : concatenation_of (Str []) (Str (codes "a")) ≡ Ok (Str (codes "a"))
empty_joined = refl

-- a text joined with NULL is NULL
pub null_joined : concatenation_of (Str (codes "a")) Null ≡ Ok Null
null_joined = refl

-- places before the first count: SUBSTRING('abc' FROM 0 FOR 2)
pub before_the_first : substring_of (Str (codes "abc")) (Int (pos 0)) (Some (Int (pos 2))) ≡
    Ok (Str (codes "a"))
before_the_first = refl

-- a length below 0 is a fault
pub below_zero : substring_of (Str (codes "abc")) (Int (pos 2)) (Some (Int (negsuc 0))) ≡
    Err BadSubstring
below_zero = refl

-- place and length may add up past 2^63-1
pub no_end_at_64_bits : substring_of (Str (codes "abc")) (Int (pos 2)) (Some greatest) ≡
    Ok (Str (codes "bc"))
no_end_at_64_bits = refl

-- characters before the text are none
pub wholly_before : substring_of (Str (codes "abc")) least (Some greatest) ≡ Ok (Str [])
wholly_before = refl

-- a place past the end gives an empty text
pub past_the_end : substring_of (Str (codes "abc")) (Int (pos 5)) None ≡ Ok (Str [])
past_the_end = refl

-- a NULL length gives NULL
pub null_length : substring_of (Str (codes "abc")) (Int (pos 1)) (Some Null) ≡ Ok Null
null_length = refl

-- ---- casts

-- spaces at both ends are dropped
pub spaces_dropped : cast_to Integer (Str (codes " 12 ")) ≡ Ok (Int (pos 12))
spaces_dropped = refl

-- a sign, and zeros in front
pub signed : cast_to Integer (Str (codes "-007")) ≡ Ok (Int (negsuc 6))
signed = refl

-- a sign alone spells no number
pub sign_alone : cast_to Integer (Str (codes " + ")) ≡ Err BadCast
sign_alone = refl

-- a space between digits spells none
pub space_inside : cast_to Integer (Str (codes "1 2")) ≡ Err BadCast
space_inside = refl

-- a space between sign and digits spells none
pub space_after_a_sign : cast_to Integer (Str (codes "- 1")) ≡ Err BadCast
space_after_a_sign = refl

-- the least INTEGER is read
pub least_read : cast_to Integer (Str (codes "-9223372036854775808")) ≡ Ok least
least_read = refl

-- 2^63 is a number, but no INTEGER
pub one_too_great : cast_to Integer (Str (codes "9223372036854775808")) ≡ Err OutOfRange
one_too_great = refl

-- not a number, and not one that is too great
pub great_and_no_number : cast_to Integer (Str (codes "99999999999999999999x")) ≡ Err BadCast
great_and_no_number = refl

-- the words are read in any case of letters
pub any_case : cast_to Boolean (Str (codes " tRuE")) ≡ Ok (Truth true)
any_case = refl

-- UNKNOWN is the truth value NULL
pub unknown_is_null : cast_to Boolean (Str (codes "unknown")) ≡ Ok Null
unknown_is_null = refl

-- a shorter word spells no truth value
pub no_truth : cast_to Boolean (Str (codes "t")) ≡ Err BadCast
no_truth = refl

-- a word that is longer than the type is a fault
pub no_room_for_a_word : cast_to (Varchar 4) (Truth false) ≡ Err BadCast
no_room_for_a_word = refl

-- a CAST cuts a text, whatever it cuts off
pub cut_by_a_cast : cast_to (Varchar 2) (Str (codes "abc")) ≡ Ok (Str (codes "ab"))
cut_by_a_cast = refl

-- ---- assignment

-- assignment cuts spaces off
pub spaces_cut : assigned (Varchar 2) (Str (codes "ab  ")) ≡ Ok (Str (codes "ab"))
spaces_cut = refl

-- assignment cuts no letter off
pub letters_kept : assigned (Varchar 2) (Str (codes "abc")) ≡ Err TooLong
letters_kept = refl

-- assignment cuts no space off that a letter follows
pub spaces_before_letters : assigned (Varchar 2) (Str (codes "ab c")) ≡ Err TooLong
spaces_before_letters = refl

-- spaces that the type has room for stay
pub room_for_spaces : assigned (Varchar 3) (Str (codes "a ")) ≡ Ok (Str (codes "a "))
room_for_spaces = refl

-- ---- aggregates

-- the count of NULLs is 0
pub nothing_counted : folded Count (Null ∷ []) ≡ Ok (Int (pos 0))
nothing_counted = refl

-- the sum of NULLs is NULL
pub nothing_summed : folded Sum (Null ∷ []) ≡ Ok Null
nothing_summed = refl

-- judged at its end alone
pub sum_past_its_range : folded Sum (greatest ∷ Int (pos 1) ∷ Int (negsuc 0) ∷ []) ≡ Ok greatest
sum_past_its_range = refl

-- a sum past the greatest INTEGER is a fault
pub sum_out_of_range : folded Sum (greatest ∷ Null ∷ Int (pos 1) ∷ []) ≡ Err OutOfRange
sum_out_of_range = refl

-- -7 by 2 is -3, since NULL is not counted
pub average_towards_zero : folded Avg (Int (negsuc 6) ∷ Null ∷ Int (pos 0) ∷ []) ≡
    Ok (Int (negsuc 2))
average_towards_zero = refl

-- the least text; NULL is skipped
pub first_text : folded Min (Null ∷ Str (codes "b") ∷ Str (codes "ab") ∷ []) ≡ Ok (Str (codes "ab"))
first_text = refl

-- the greatest truth value
pub last_truth : folded Max (Truth false ∷ Truth true ∷ Null ∷ []) ≡ Ok (Truth true)
last_truth = refl

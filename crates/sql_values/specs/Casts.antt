-- What CAST and assignment give: ISO/IEC 9075-2, 6.13 (cast specification) and 9.2 (store
-- assignment).
use Rattle.std.specs.Prelude.{ℕ, ℤ, nat_le, Bool, true, false, List, length, take, drop}
use Rattle.std.specs.Prelude.{if◌then◌else◌, Option, Some, None, Ok, Err}
use Rattle.std.specs.Fmt.{signed_decimal}
use Rattle.sql_values.specs.declared.value.Value.{Value}
use Rattle.sql_values.specs.declared.value.Value.TheVariants.{Null, Int, Str, Bool as Truth}
use Rattle.sql_values.specs.declared.value.SqlType.{SqlType}
use Rattle.sql_values.specs.declared.value.SqlType.TheVariants.{Integer, Varchar, Boolean}
use Rattle.sql_values.specs.declared.value.ValueFault.TheVariants.{TooLong, BadCast}
use Rattle.sql_values.specs.Values.{Outcome, ranged}
use Rattle.sql_values.specs.Spellings.{TruthWord, True, False, Unknown, letters, are_spaces}
use Rattle.sql_values.specs.Spellings.{trimmed, integer_in, truth_in}

-- ---- CAST

-- the number that a text spells, where it is an INTEGER
abbrev pub integer_or_fault : Option ℤ → Outcome
integer_or_fault None = Err BadCast
integer_or_fault (Some z) = ranged z

-- UNKNOWN is the truth value NULL
abbrev pub truth_or_fault : Option TruthWord → Outcome
truth_or_fault None = Err BadCast
truth_or_fault (Some True) = Ok (Truth true)
truth_or_fault (Some False) = Ok (Truth false)
truth_or_fault (Some Unknown) = Ok Null

-- a number's decimal text, where the type has room for it
abbrev pub decimal_text : ℕ → ℤ → Outcome
decimal_text n z = if nat_le (length (signed_decimal z)) n then Ok (Str (signed_decimal z)) else Err
    TooLong

-- the word that spells a truth value: TRUE or FALSE, never UNKNOWN
abbrev pub word_for : Bool → TruthWord
word_for true = True
word_for false = False

-- a truth value's word, where the type has room for it
abbrev pub word_text : ℕ → Bool → Outcome
word_text n p = if nat_le (length (letters (word_for p))) n then Ok (Str (letters (word_for p)))
    else Err BadCast

-- NULL gives NULL; INTEGER to BOOLEAN and back is never asked
abbrev pub cast_to : SqlType → Value → Outcome
cast_to Integer (Int z) = Ok (Int z)
cast_to Integer (Str s) = integer_or_fault (integer_in (trimmed s))
cast_to (Varchar n) (Int z) = decimal_text n z
cast_to (Varchar n) (Str s) = Ok (Str (take n s))
cast_to (Varchar n) (Truth p) = word_text n p
cast_to Boolean (Str s) = truth_or_fault (truth_in (trimmed s))
cast_to Boolean (Truth p) = Ok (Truth p)
cast_to _ _ = Ok Null

-- ---- assignment

-- a longer text is cut where all the excess is spaces
abbrev pub cut_to : ℕ → List ℕ → Outcome
cut_to n s = if nat_le (length s) n then Ok (Str s) else if are_spaces (drop n s) then Ok
    (Str (take n s)) else Err TooLong

-- the value that a target of a type takes
abbrev pub assigned : SqlType → Value → Outcome
assigned (Varchar n) (Str s) = cut_to n s
assigned _ v = Ok v

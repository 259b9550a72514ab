-- What the operations on texts give: ISO/IEC 9075-2, 6.29 (string value expression), 6.28 (length
-- expression) and 6.32 (SUBSTRING). Places in a text are counted from 1.
use Rattle.std.specs.Prelude.{ℕ, ℤ, pos, ◌+◌, ◌-◌, ◌+ℤ◌, int_lt, nat_le, List, ◌++◌, length, take}
use Rattle.std.specs.Prelude.{drop, max, min, if◌then◌else◌, Option, Some, None, Ok, Err}
use Rattle.sql_texts.specs.declared.TheConstants.{MOST_TEXT}
use Rattle.sql_values.specs.declared.value.Value.{Value}
use Rattle.sql_values.specs.declared.value.Value.TheVariants.{Null, Int, Str}
use Rattle.sql_values.specs.declared.value.ValueFault.TheVariants.{TooLong, BadSubstring}
use Rattle.sql_values.specs.Values.{Outcome}

-- one text after another, where a text may have so many characters
abbrev pub joined : List ℕ → List ℕ → Outcome
joined s t = if nat_le (length s + length t) MOST_TEXT then Ok (Str (s ++ t)) else Err TooLong

-- `||`: two texts joined, or a fault where that is too long; a NULL operand gives NULL
abbrev pub concatenation_of : Value → Value → Outcome
concatenation_of (Str s) (Str t) = joined s t
concatenation_of _ _ = Ok Null

-- the number of characters
abbrev pub length_of : Value → Value
length_of (Str s) = Int (pos (length s))
length_of _ = Null

-- a place as a natural number; one below 0 is 0
abbrev pub natural : ℤ → ℕ
natural (pos n) = n
natural _ = 0

-- the characters from a place on, up to before another place, as far as the text has them
abbrev pub characters_between : ℤ → ℤ → List ℕ → List ℕ
characters_between from end s =
    let first = max 1 (natural from) in let stop = min (length s + 1) (natural end) in
    take (stop - first) (drop (first - 1) s)

-- SUBSTRING(s FROM p FOR l): up to before p + l; a length below 0 is a fault
abbrev pub part_of : List ℕ → ℤ → ℤ → Outcome
part_of s from count = if int_lt count (pos 0) then Err BadSubstring else Ok
    (Str (characters_between from (from +ℤ count) s))

-- SUBSTRING(s FROM p): up to the text's end
abbrev pub rest_of : List ℕ → ℤ → Outcome
rest_of s from = Ok (Str (drop (max 1 (natural from) - 1) s))

-- a NULL operand gives NULL
abbrev pub substring_of : Value → Value → Option Value → Outcome
substring_of (Str s) (Int from) None = rest_of s from
substring_of (Str s) (Int from) (Some (Int count)) = part_of s from count
substring_of _ _ _ = Ok Null

-- What texts spell: the numbers and truth values that ISO/IEC 9075-2, 6.13 (cast specification)
-- reads from them, by 5.3 (literal). The relations `SpellsInteger` and `SpellsTruth` say it; the
-- functions below read it off, and the law `reads_what_is_spelled` says that they do.
use Rattle.std.specs.Prelude.{◌≡◌, ℕ, ℤ, pos, neg_ℤ, ◌+◌, ◌*◌, ◌-◌, ◌||◌, nat_eq, Bool, true, false}
use Rattle.std.specs.Prelude.{List, [], ◌∷◌, ◌++◌, drop, reverse, replicate, codes, if◌then◌else◌}
use Rattle.std.specs.Prelude.{Option, Some, None}
use Rattle.std.specs.List.{list_all, prefix_len}
use Rattle.std.specs.Str.{str_to_ascii_lowercase, str_eq_ignore_ascii_case}
use Rattle.sql_texts.specs.Names.{is_digit}

-- the code of a space, the only blank that CAST and assignment leave out
abbrev pub is_space : ℕ → Bool
is_space c = nat_eq c 32

-- all of them are spaces, also where there is none
abbrev pub are_spaces : List ℕ → Bool
are_spaces s = list_all is_space s

-- so many spaces
abbrev pub spaces : ℕ → List ℕ
spaces n = replicate n 32

-- ---- what a text spells

-- one digit or more
abbrev pub are_digits : List ℕ → Bool
are_digits [] = false
are_digits (d ∷ ds) = list_all is_digit (d ∷ ds)

-- the number of decimal digits, after what was read so far
abbrev pub weighed : ℕ → List ℕ → ℕ
weighed so_far [] = so_far
weighed so_far (d ∷ ds) = weighed (so_far * 10 + (d - 48)) ds

-- + or - or nothing, and what it makes of a number
pub data Sign : Type 0 where
  Bare : Sign
  Plus : Sign
  Minus : Sign

-- how a sign is written
abbrev pub sign_text : Sign → List ℕ
sign_text Bare = []
sign_text Plus = codes "+"
sign_text Minus = codes "-"

-- the number that a sign makes of the digits' number
abbrev pub with_sign : Sign → ℕ → ℤ
with_sign Bare n = pos n
with_sign Plus n = pos n
with_sign Minus n = neg_ℤ (pos n)

-- spaces, perhaps a sign, one digit or more, spaces
pub record SpellsInteger (s : List ℕ) (z : ℤ) : Type 0 where
  pub before : ℕ
  pub after : ℕ
  pub sign : Sign
  pub digits : List ℕ
  pub are_digits : are_digits digits ≡ true
  pub written : s ≡ spaces before ++ (sign_text sign ++ digits ++ spaces after)
  pub value : z ≡ with_sign sign (weighed 0 digits)

-- the words for truth values
pub data TruthWord : Type 0 where
  True : TruthWord
  False : TruthWord
  Unknown : TruthWord

-- how a truth word is spelled, in capitals
abbrev pub letters : TruthWord → List ℕ
letters True = codes "TRUE"
letters False = codes "FALSE"
letters Unknown = codes "UNKNOWN"

-- spaces, the word in any case of letters, spaces
pub record SpellsTruth (s : List ℕ) (w : TruthWord) : Type 0 where
  pub before : ℕ
  pub after : ℕ
  pub word : List ℕ
  pub in_any_case : str_to_ascii_lowercase word ≡ str_to_ascii_lowercase (letters w)
  pub written : s ≡ spaces before ++ (word ++ spaces after)

-- ---- reading what is spelled

-- without the spaces at the head
abbrev pub without_leading_spaces : List ℕ → List ℕ
without_leading_spaces s = drop (prefix_len is_space s) s

-- without the spaces at both ends
abbrev pub trimmed : List ℕ → List ℕ
trimmed s = reverse (without_leading_spaces (reverse (without_leading_spaces s)))

-- the sign at the head; none where another character, or nothing, stands there
abbrev pub sign_of : List ℕ → Sign
sign_of [] = Bare
sign_of (c ∷ s) = if nat_eq c 43 then Plus else if nat_eq c 45 then Minus else Bare

-- what follows the sign at the head; all of it where none stands there
abbrev pub without_sign : List ℕ → List ℕ
without_sign [] = []
without_sign (c ∷ s) = if nat_eq c 43 || nat_eq c 45 then s else c ∷ s

-- the number that a text without spaces at its ends spells
abbrev pub integer_in : List ℕ → Option ℤ
integer_in s = if are_digits (without_sign s) then Some
    (with_sign (sign_of s) (weighed 0 (without_sign s))) else None

-- the truth value that such a text spells
abbrev pub truth_in : List ℕ → Option TruthWord
truth_in s =
    if str_eq_ignore_ascii_case s (letters True) then Some True else if str_eq_ignore_ascii_case s
    (letters False) then Some False
    else if str_eq_ignore_ascii_case s (letters Unknown) then Some Unknown else None

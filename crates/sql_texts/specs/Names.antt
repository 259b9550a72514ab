-- Names: regular identifiers of ISO/IEC 9075-2, 5.2, of ASCII letters, folded to capitals.
use Rattle.std.specs.Prelude.{ℕ, ◌≡◌, ◌&&◌, ◌||◌, nat_le, nat_eq, Bool, false, List, [], ◌∷◌}
use Rattle.std.specs.Prelude.{length, map, IsTrue}
use Rattle.std.specs.List.{list_all}
use Rattle.std.specs.Char.{to_ascii_uppercase}
use Rattle.sql_texts.specs.declared.TheConstants.{MOST_NAME}

-- the most characters of a name; a longer word is none
abbrev pub most_characters : ℕ
most_characters = MOST_NAME

-- the code of a letter from A to Z
abbrev pub is_capital : ℕ → Bool
is_capital b = nat_le 65 b && nat_le b 90

-- the code of a letter from a to z
abbrev pub is_small : ℕ → Bool
is_small b = nat_le 97 b && nat_le b 122

-- the code of an ASCII letter, capital or small
abbrev pub is_letter : ℕ → Bool
is_letter b = is_capital b || is_small b

-- the code of a digit from 0 to 9
abbrev pub is_digit : ℕ → Bool
is_digit b = nat_le 48 b && nat_le b 57

-- what may stand after a name's first letter
abbrev pub is_name_part : ℕ → Bool
is_name_part b = is_letter b || (is_digit b || nat_eq b 95)

-- the first code passes a test; where there is none, it does not
abbrev pub begins_by : (ℕ → Bool) → List ℕ → Bool
begins_by test [] = false
begins_by test (b ∷ bs) = test b

-- a letter, then letters, digits and `_`, within the limit
abbrev pub is_word_like : List ℕ → Bool
is_word_like word = begins_by is_letter word &&
    (list_all is_name_part word && nat_le (length word) most_characters)

-- the same as a fact: the word may stand for a name
abbrev pub IsWordLike : List ℕ → Type 0
IsWordLike word = IsTrue (is_word_like word)

-- the letters folded to capitals
abbrev pub folded : List ℕ → List ℕ
folded word = map to_ascii_uppercase word

-- a folded word
abbrev pub IsName : List ℕ → Type 0
IsName name = IsTrue (is_word_like name) × (folded name ≡ name)

-- Names in a row and their places, and what an index of them is. ISO/IEC 9075-2, 5.4 (names and
-- identifiers).
use Rattle.std.specs.Prelude.{◌≡◌, ℕ, suc, if◌then◌else◌, List, [], ◌∷◌, ◌++◌, Option, Some, None}
use Rattle.std.specs.Prelude.{is_some}
use Rattle.std.specs.Map.{lookup}
use Rattle.std.specs.Str.{bytes_eq}

-- a place counted from one name further to the left, where there is one
abbrev pub one_further : Option ℕ → Option ℕ
one_further None = None
one_further (Some place) = Some (suc place)

-- the place of the first of a name among names
abbrev pub place_of : List ℕ → List (List ℕ) → Option ℕ
place_of name [] = None
place_of name (n ∷ ns) = if bytes_eq name n then Some 0 else one_further (place_of name ns)

-- entries that give each name its place among names
abbrev pub Indexes : List (List ℕ × ℕ) → List (List ℕ) → Type 0
Indexes entries names = (name : List ℕ) → lookup (bytes_eq name) entries ≡ place_of name names

-- entries with one for a name, where there is none yet
abbrev pub with_name : List (List ℕ × ℕ) → List ℕ → ℕ → List (List ℕ × ℕ)
with_name entries name place = if is_some (lookup (bytes_eq name) entries) then entries else
    entries ++ (name, place) ∷ []

-- What an outcome of reading says of the tokens.
use Rattle.std.specs.Prelude.{◌≡◌, ℕ, suc, ◌<◌, ◌≤◌, List, ◌∷◌, length, Ok, Err, ◌⊎◌}
use Rattle.sql_lex.specs.Tokens.{kind_of}
use Rattle.sql_lex.specs.declared.token.TokenKind.{TokenKind}
use Rattle.sql_lex.specs.declared.token.Token.{Token}
use Rattle.grammar_algebra.specs.Grammar.{Grammar, Spells, Cut, inside, begun}
use Rattle.grammar_algebra.specs.Reading.{Outcome, NoSpelling, TooDeep}

-- a tree that is spelled there; else a beginning, and where there was no room one that goes on by a
-- token in more room
abbrev pub IsSound : {R : Type 0} {Tree : R → Type 0} {A : Type 0} →
    ((r : R) → Grammar R Tree (Tree r)) → ℕ → Grammar R Tree A → List Token → Outcome A → Type 0
IsSound rules n g ts (Ok p) = Spells (inside rules n) g p.0 ts p.1
IsSound rules n g ts (Err (NoSpelling rest)) = Cut (inside rules n) (begun rules n) g ts rest
IsSound rules n g ts (Err (TooDeep rest)) = Cut (inside rules n) (begun rules n) g ts rest
    × (t : Token) × (more : List Token) × (rest ≡ t ∷ more) ×
    Cut (inside rules (suc n)) (begun rules (suc n)) g ts more

-- this tree, unless the room n was less than the spelling's own m
abbrev pub Gets : {A : Type 0} → ℕ → ℕ → Outcome A → A → List Token → Type 0
Gets n m (Ok p) x rest = (p.0 ≡ x) × (p.1 ≡ rest)
Gets n m (Err (NoSpelling at)) x rest = ⊥
Gets n m (Err (TooDeep at)) x rest = n < m

-- as far as the end at least, unless the room n was less than m
abbrev pub Reaches : {A : Type 0} → ℕ → ℕ → Outcome A → List Token → Type 0
Reaches n m (Ok p) end = length p.1 ≤ length end
Reaches n m (Err (NoSpelling rest)) end = length rest ≤ length end
Reaches n m (Err (TooDeep rest)) end = (length rest ≤ length end) ⊎ (n < m)

-- a token of such a kind, where there was no room
abbrev pub DeepAt : {A : Type 0} → (TokenKind → Type 0) → Outcome A → Type 0
DeepAt opens (Ok p) = Unit {0}
DeepAt opens (Err (NoSpelling rest)) = Unit {0}
DeepAt opens (Err (TooDeep rest)) = (t : Token) × (more : List Token) × (rest ≡ t ∷ more) ×
    opens (kind_of t.lexeme)

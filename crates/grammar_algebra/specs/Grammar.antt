-- Grammars as values, and what they mean. They are the productions of ISO/IEC 9075-1, 6.2, over
-- tokens. R names the rules whose text stands in a construct, between an opening and a closing
-- token, and Tree the trees of each.
use Rattle.std.specs.Prelude.{◌≡◌, ℕ, zero, suc, List, [], ◌∷◌, Option, Some, None, ◌⊎◌}
use Rattle.sql_lex.specs.Tokens.{kind_of}
use Rattle.sql_lex.specs.declared.token.TokenKind.{TokenKind}
use Rattle.sql_lex.specs.declared.token.Token.{Token}
use Rattle.grammar_algebra.specs.declared.stage.Stage.{Stage}

-- a grammar whose trees are of the type
pub data Grammar (R : Type 0) (Tree : R → Type 0) : Type 0 → Type 1 where
  -- one token of the kind
  token : TokenKind → Grammar R Tree Token
  -- a construct: its opening token, what the rule spells, a closing token
  nested : TokenKind → (r : R) → TokenKind → Grammar R Tree (Token × Tree r)
  -- one and then the other
  both : {A B : Type 0} → Grammar R Tree A → Grammar R Tree B → Grammar R Tree (A × B)
  -- one or the other
  either : {A : Type 0} → Grammar R Tree A → Grammar R Tree A → Grammar R Tree A
  optional : {A : Type 0} → Grammar R Tree A → Grammar R Tree (Option A)
  -- any number of times
  many : {A : Type 0} → Grammar R Tree A → Grammar R Tree (List A)
  -- any number of times, where each item depends on the stage and moves it on
  staged : {A : Type 0} → (Stage → Grammar R Tree A) → (Stage → A → Stage) → Stage →
      Grammar R Tree (List A)
  -- the trees of another grammar, written otherwise
  map_to : {A B : Type 0} → (A → B) → Grammar R Tree A → Grammar R Tree B

-- The tokens are this one, of the kind, and the rest.
abbrev pub Takes : TokenKind → Token → List Token → List Token → Type 0
Takes kind t tokens rest = (kind_of t.lexeme ≡ kind) × (tokens ≡ t ∷ rest)

-- the rest of the tokens after one of the kind
abbrev pub Passes : TokenKind → List Token → List Token → Type 0
Passes kind tokens rest = (t : Token) × Takes kind t tokens rest

-- What an option spells: nothing, or one tree.
abbrev pub IfAny : {A : Type 0} → (A → List Token → List Token → Type 0) → Option A → List Token →
    List Token → Type 0
IfAny spells None tokens rest = tokens ≡ rest
IfAny spells (Some x) tokens rest = spells x tokens rest

-- What a repetition spells: its trees one after another, from the left.
abbrev pub Each : {A : Type 0} → (A → List Token → List Token → Type 0) → List A → List Token →
    List Token → Type 0
Each spells [] tokens rest = tokens ≡ rest
Each spells (x ∷ xs) tokens rest = (middle : List Token) × spells x tokens middle ×
    Each spells xs middle rest

-- the same, each item at its stage
abbrev pub EachFrom : {A : Type 0} → (Stage → A → List Token → List Token → Type 0) →
    (Stage → A → Stage) → Stage → List A → List Token → List Token → Type 0
EachFrom spells next stage [] tokens rest = tokens ≡ rest
EachFrom spells next stage (x ∷ xs) tokens rest = (middle : List Token) ×
    spells stage x tokens middle × EachFrom spells next (next stage x) xs middle rest

-- the stage after the items
abbrev pub stage_after : {A : Type 0} → (Stage → A → Stage) → Stage → List A → Stage
stage_after next stage [] = stage
stage_after next stage (x ∷ xs) = stage_after next (next stage x) xs

-- what is spelled in constructs
abbrev pub Inner : (R : Type 0) → (R → Type 0) → Type 1
Inner R Tree = (r : R) → Tree r → List Token → List Token → Type 0

-- The tree is spelled by the tokens up to the rest.
abbrev pub Spells : {R : Type 0} {Tree : R → Type 0} {A : Type 0} → Inner R Tree →
    Grammar R Tree A → A → List Token → List Token → Type 0
Spells inner (token kind) x tokens rest = Takes kind x tokens rest
Spells inner (nested opening r closing) x tokens rest =
    (first : List Token) × (last : List Token) × Takes opening x.0 tokens first ×
    inner r x.1 first last × Passes closing last rest
Spells inner (both g h) x tokens rest = (middle : List Token) × Spells inner g x.0 tokens middle ×
    Spells inner h x.1 middle rest
Spells inner (either g h) x tokens rest = Spells inner g x tokens rest ⊎
    Spells inner h x tokens rest
Spells inner (optional g) x tokens rest = IfAny (Spells inner g) x tokens rest
Spells inner (many g) xs tokens rest = Each (Spells inner g) xs tokens rest
Spells inner (staged item next stage) xs tokens rest =
    EachFrom (λ s. Spells inner (item s)) next stage xs tokens rest
Spells inner (map_to f g) y tokens rest = (x : _) × (y ≡ f x) × Spells inner g x tokens rest

-- The tokens up to the end are a spelling cut short, perhaps not at all: of a rule's parts the
-- first are whole, the next is cut, no later one stands.
abbrev pub Begun : (R : Type 0) → Type 1
Begun R = R → List Token → List Token → Type 0

-- A beginning of a spelling of the grammar takes the tokens up to `end`: it may end between any two
-- tokens, in a construct too. `begun` says which beginnings of a construct's text there are.
abbrev pub Cut : {R : Type 0} {Tree : R → Type 0} {A : Type 0} → Inner R Tree → Begun R →
    Grammar R Tree A → List Token → List Token → Type 0
Cut inner begun (token kind) tokens end = (tokens ≡ end) ⊎ Passes kind tokens end
Cut inner begun (nested opening r closing) tokens end =
    (tokens ≡ end) ⊎ ((first : List Token) × Passes opening tokens first
    × (begun r first end ⊎ ((x : _) × (last : List Token) × inner r x first last ×
    Passes closing last end)))
Cut inner begun (both g h) tokens end =
    Cut inner begun g tokens end ⊎ ((x : _) × (middle : List Token) ×
    Spells inner g x tokens middle × Cut inner begun h middle end)
Cut inner begun (either g h) tokens end = Cut inner begun g tokens end ⊎
    Cut inner begun h tokens end
Cut inner begun (optional g) tokens end = (tokens ≡ end) ⊎ Cut inner begun g tokens end
Cut inner begun (many g) tokens end = (xs : List _) × (middle : List Token) ×
    Each (Spells inner g) xs tokens middle × ((middle ≡ end) ⊎ Cut inner begun g middle end)
Cut inner begun (staged item next stage) tokens end =
    (xs : List _) × (middle : List Token) × EachFrom (λ s. Spells inner (item s)) next stage xs
    tokens middle
    × ((middle ≡ end) ⊎ Cut inner begun (item (stage_after next stage xs)) middle end)
Cut inner begun (map_to f g) tokens end = Cut inner begun g tokens end

-- what constructs hold, with at most n of them open, this one too
abbrev pub inside : {R : Type 0} {Tree : R → Type 0} → ((r : R) → Grammar R Tree (Tree r)) → ℕ →
    Inner R Tree
inside rules zero = λ r x tokens rest. ⊥
inside rules (suc n) = λ r x tokens rest. Spells (inside rules n) (rules r) x tokens rest

-- beginnings of a construct's text with at most n constructs open in each other
abbrev pub begun : {R : Type 0} {Tree : R → Type 0} → ((r : R) → Grammar R Tree (Tree r)) → ℕ →
    Begun R
begun rules zero = λ r tokens end. ⊥
begun rules (suc n) = λ r tokens end. Cut (inside rules n) (begun rules n) (rules r) tokens end

-- The kind opens a construct of the grammar, outside all others.
abbrev pub OpensHere : {R : Type 0} {Tree : R → Type 0} {A : Type 0} → Grammar R Tree A →
    TokenKind → Type 0
OpensHere (token kind) k = ⊥
OpensHere (nested opening r closing) k = k ≡ opening
OpensHere (both g h) k = OpensHere g k ⊎ OpensHere h k
OpensHere (either g h) k = OpensHere g k ⊎ OpensHere h k
OpensHere (optional g) k = OpensHere g k
OpensHere (many g) k = OpensHere g k
OpensHere (staged item next stage) k = (s : Stage) × OpensHere (item s) k
OpensHere (map_to f g) k = OpensHere g k

-- The kind opens a construct of the grammar, or of what stands in one.
abbrev pub Opens : {R : Type 0} {Tree : R → Type 0} {A : Type 0} →
    ((r : R) → Grammar R Tree (Tree r)) → Grammar R Tree A → TokenKind → Type 0
Opens {R = R} rules g k = OpensHere g k ⊎ ((r : R) × OpensHere (rules r) k)

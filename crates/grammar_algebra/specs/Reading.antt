-- Reading by one token ahead, as a function of the grammar.
use Rattle.std.specs.Prelude.{ℕ, zero, suc, Bool, true, false, not, ◌&&◌, ◌||◌, cond, List, [], ◌∷◌}
use Rattle.std.specs.Prelude.{◌++◌, length, drop, Option, Some, None, Result, Ok, Err}
use denote.Enum.Bare.{sameb}
use Rattle.sql_lex.specs.Tokens.{kind_of}
use Rattle.sql_lex.specs.contracts.word.Word.{the_type as words}
use Rattle.sql_lex.specs.contracts.sign.Sign.{the_type as signs}
use Rattle.sql_lex.specs.declared.token.Lexeme.TheVariants as lexeme
use Rattle.sql_lex.specs.declared.token.TokenKind.{TokenKind}
use Rattle.sql_lex.specs.declared.token.TokenKind.TheVariants as kind
use Rattle.sql_lex.specs.declared.token.Token.{Token}
use Rattle.grammar_algebra.specs.declared.stage.Stage.{Stage}
use Rattle.grammar_algebra.specs.declared.stage.Stage.TheVariants.{First, Second, Third}
use Rattle.grammar_algebra.specs.Grammar.{Grammar, token, nested, both, either, optional, many}
use Rattle.grammar_algebra.specs.Grammar.{staged, map_to}

-- ---- the next token

-- whether two kinds of tokens are the same one
unfoldable pub same_kind : TokenKind → TokenKind → Bool
same_kind kind.Name kind.Name = true
same_kind (kind.Word a) (kind.Word b) = sameb words a b
same_kind kind.Number kind.Number = true
same_kind kind.Text kind.Text = true
same_kind (kind.Sign a) (kind.Sign b) = sameb signs a b
same_kind kind.Bad kind.Bad = true
same_kind _ _ = false

-- whether a kind stands in a list
abbrev pub is_one_of : TokenKind → List TokenKind → Bool
is_one_of k [] = false
is_one_of k (x ∷ xs) = same_kind k x || is_one_of k xs

-- the kind of the next token, where one is left
abbrev pub next_kind : List Token → Option TokenKind
next_kind [] = None
next_kind (t ∷ rest) = Some (kind_of t.lexeme)

-- what is read where no token is left: nothing, by each reader
abbrev pub no_token : Token
no_token = record { lexeme = lexeme.Bad; number = 0; start = 0; end = 0; line = 1; column = 1 }

-- the next token; where none is left one of number 0
abbrev pub next_token : List Token → Token
next_token [] = no_token
next_token (t ∷ rest) = t

-- whether there is a next kind, and it stands in the list
abbrev pub is_in : List TokenKind → Option TokenKind → Bool
is_in kinds None = false
is_in kinds (Some k) = is_one_of k kinds

-- the next token is of one of the kinds
abbrev pub begins : List TokenKind → List Token → Bool
begins kinds tokens = is_in kinds (next_kind tokens)

-- ---- what a grammar may begin with, and what may go on with a whole spelling of it

-- whether no token at all is a spelling
abbrev pub nullable : {R : Type 0} {Tree : R → Type 0} {A : Type 0} → Grammar R Tree A → Bool
nullable (token kind) = false
nullable (nested opening r closing) = false
nullable (both g h) = nullable g && nullable h
nullable (either g h) = nullable g || nullable h
nullable (optional g) = true
nullable (many g) = true
nullable (staged item next stage) = true
nullable (map_to f g) = nullable g

-- the kinds of all stages
abbrev pub at_stages : (Stage → List TokenKind) → List TokenKind
at_stages kinds = kinds First ++ (kinds Second ++ kinds Third)

-- the kinds with which a spelling may begin
abbrev pub first : {R : Type 0} {Tree : R → Type 0} {A : Type 0} → Grammar R Tree A → List TokenKind
first (token kind) = kind ∷ []
first (nested opening r closing) = opening ∷ []
first (both g h) = first g ++ cond (nullable g) (first h) []
first (either g h) = first g ++ first h
first (optional g) = first g
first (many g) = first g
first (staged item next stage) = first (item stage) ++ cond (nullable (item stage))
    (at_stages (λ s. first (item s))) []
first (map_to f g) = first g

-- the kinds with which a whole spelling may go on to a longer one
abbrev pub goes_on : {R : Type 0} {Tree : R → Type 0} {A : Type 0} → Grammar R Tree A →
    List TokenKind
goes_on (token kind) = []
goes_on (nested opening r closing) = []
goes_on (both g h) = goes_on h ++ cond (nullable h) (goes_on g) []
goes_on (either g h) = goes_on g ++ goes_on h
goes_on (optional g) = first g ++ goes_on g
goes_on (many g) = first g ++ goes_on g
goes_on (staged item next stage) = at_stages (λ s. first (item s)) ++ at_stages
    (λ s. goes_on (item s))
goes_on (map_to f g) = goes_on g

-- whether two lists have no kind in common
abbrev pub apart : List TokenKind → List TokenKind → Bool
apart [] ks = true
apart (x ∷ xs) ks = not (is_one_of x ks) && apart xs ks

-- whether a test holds at each of the three stages
abbrev pub at_each_stage : (Stage → Bool) → Bool
at_each_stage test = test First && (test Second && test Third)

-- One token ahead decides.
abbrev pub decides : {R : Type 0} {Tree : R → Type 0} {A : Type 0} →
    ((r : R) → Grammar R Tree (Tree r)) → Grammar R Tree A → Bool
decides rules (token kind) = true
decides rules (nested opening r closing) = not (is_one_of closing (goes_on (rules r)))
decides rules (both g h) = decides rules g && (decides rules h && apart (first h) (goes_on g))
decides rules (either g h) = decides rules g &&
    (decides rules h && (apart (first h) (first g) && (not (nullable g) && not (nullable h))))
decides rules (optional g) = decides rules g && not (nullable g)
decides rules (many g) = decides rules g && (not (nullable g) && apart (first g) (goes_on g))
decides rules (staged item next stage) = at_each_stage
    (λ s. decides rules (item s) && (not (nullable (item s)) && apart
    (at_stages (λ t. first (item t))) (goes_on (item s))))
decides rules (map_to f g) = decides rules g

-- ---- reading

-- where nothing is read, with the tokens from that place on
pub data Fault : Type 0 where
  NoSpelling : List Token → Fault
  TooDeep : List Token → Fault

-- what reading comes to: a tree and the tokens after it, or why there is none, and where
abbrev pub Outcome : Type 0 → Type 0
Outcome A = Result (A × List Token) Fault

-- one reading after another; the first fault is the outcome's
infixl 10 ◌>>=◌
abbrev pub ◌>>=◌ : {A B : Type 0} → Outcome A → (A × List Token → Outcome B) → Outcome B
(Ok p) >>= f = f p
(Err e) >>= f = Err e

-- reading one token of the kind
abbrev pub expect : TokenKind → List Token → Outcome Token
expect kind tokens = cond (begins (kind ∷ []) tokens) (Ok (next_token tokens, drop 1 tokens))
    (Err (NoSpelling tokens))

-- opens a construct, where there is room, and gives its token and the room in it
abbrev pub enter : ℕ → TokenKind → List Token → Outcome (Token × ℕ)
enter zero kind tokens = cond (begins (kind ∷ []) tokens) (Err (TooDeep tokens))
    (Err (NoSpelling tokens))
enter (suc room) kind tokens = cond (begins (kind ∷ []) tokens)
    (Ok ((next_token tokens, room), drop 1 tokens)) (Err (NoSpelling tokens))

-- Reading items as long as a token of the kinds stands next, at most `turns` times; where the turns
-- are as many as the tokens they never run out before the items do.
abbrev pub repeat : {A : Type 0} → List TokenKind → (List Token → Outcome A) → ℕ → List Token →
    Outcome (List A)
repeat kinds item zero tokens = Ok ([], tokens)
repeat kinds item (suc turns) tokens = cond (begins kinds tokens)
    (item tokens >>= λ p. repeat kinds item turns p.1 >>= λ ps. Ok (p.0 ∷ ps.0, ps.1))
    (Ok ([], tokens))

-- the same, where the item read moves the stage on
abbrev pub repeat_from : {A : Type 0} → (Stage → List TokenKind) →
    (Stage → List Token → Outcome A) → (Stage → A → Stage) → ℕ → Stage → List Token →
    Outcome (List A)
repeat_from kinds item next zero stage tokens = Ok ([], tokens)
repeat_from kinds item next (suc turns) stage tokens = cond (begins (kinds stage) tokens)
    (item stage tokens >>= λ p. repeat_from kinds item next turns (next stage p.0) p.1 >>= λ ps.
    Ok (p.0 ∷ ps.0, ps.1))
    (Ok ([], tokens))

-- how the text of each construct is read
abbrev pub Readers : (R : Type 0) → (R → Type 0) → Type 0
Readers R Tree = (r : R) → List Token → Outcome (Tree r)

-- Reading by the grammar, with room for so many constructs: each choice is decided by the next
-- token's kind alone.
abbrev pub read : {R : Type 0} {Tree : R → Type 0} {A : Type 0} → ℕ → Readers R Tree →
    Grammar R Tree A → List Token → Outcome A
read room inner (token kind) tokens = expect kind tokens
read room inner (nested opening r closing) tokens =
    enter room opening tokens >>= λ p. inner r p.1 >>= λ x. expect closing x.1 >>= λ q.
    Ok ((p.0.0, x.0), q.1)
read room inner (both g h) tokens = read room inner g tokens >>= λ p. read room inner h p.1 >>= λ q.
    Ok ((p.0, q.0), q.1)
read room inner (either g h) tokens = cond (begins (first g) tokens) (read room inner g tokens)
    (read room inner h tokens)
read room inner (optional g) tokens = cond (begins (first g) tokens)
    (read room inner g tokens >>= λ p. Ok (Some p.0, p.1)) (Ok (None, tokens))
read room inner (many g) tokens = repeat (first g) (read room inner g) (length tokens) tokens
read room inner (staged item next stage) tokens =
    repeat_from (λ s. first (item s)) (λ s. read room inner (item s)) next (length tokens) stage
    tokens
read room inner (map_to f g) tokens = read room inner g tokens >>= λ p. Ok (f p.0, p.1)

-- what constructs hold, with one of them open, and room for the others
abbrev pub readers : {R : Type 0} {Tree : R → Type 0} → ((r : R) → Grammar R Tree (Tree r)) → ℕ →
    Readers R Tree
readers rules zero = λ r tokens. Err (TooDeep tokens)
readers rules (suc n) = λ r tokens. read n (readers rules n) (rules r) tokens

-- what the grammar gives from here on, with room for n constructs
abbrev pub reading : {R : Type 0} {Tree : R → Type 0} {A : Type 0} →
    ((r : R) → Grammar R Tree (Tree r)) → ℕ → Grammar R Tree A → List Token → Outcome A
reading rules n g tokens = read n (readers rules n) g tokens

-- ---- outcomes, written otherwise

-- the list after the items that a loop has found
abbrev pub with_front : {A : Type 0} → List A → Outcome (List A) → Outcome (List A)
with_front front outcome = outcome >>= λ p. Ok (front ++ p.0, p.1)

-- the outcome with another tree made of the tree
abbrev pub mapped : {A B : Type 0} → (A → B) → Outcome A → Outcome B
mapped f outcome = outcome >>= λ p. Ok (f p.0, p.1)

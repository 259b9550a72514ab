-- The constructs that are open at a place: those that a grammar has open there, and those that are
-- open there by the tokens alone. A construct is told by the place of its opening token. The
-- innermost stands first.
use Rattle.std.specs.Prelude.{◌≡◌, ℕ, zero, suc, ◌+◌, ◌-◌, ◌≤◌, Bool, true, false, not, ◌&&◌, ◌||◌}
use Rattle.std.specs.Prelude.{if◌then◌else◌, List, [], ◌∷◌, ◌++◌, drop, length, ◌⊎◌, ◌↔◌, Result}
use Rattle.std.specs.Prelude.{Ok, Err}
use Rattle.sql_lex.specs.Openings.{kind_at, opening, is_end, follows_end, opens_at}
use Rattle.sql_lex.specs.declared.sign.Sign.TheVariants as sign
use Rattle.sql_lex.specs.declared.token.TokenKind.{TokenKind}
use Rattle.sql_lex.specs.declared.token.TokenKind.TheVariants as kind
use Rattle.sql_lex.specs.declared.token.Token.{Token}
use Rattle.sql_lex.specs.declared.word.Word.TheVariants as word
use Rattle.grammar_algebra.specs.declared.fault.ParseFault.{ParseFault}
use Rattle.grammar_algebra.specs.declared.fault.ParseFault.TheVariants as fault
use Rattle.grammar_algebra.specs.declared.stage.Stage.TheVariants.{First, Second, Third}
use Rattle.grammar_algebra.specs.Grammar.{Grammar, token, nested, both, either, optional, many}
use Rattle.grammar_algebra.specs.Grammar.{staged, map_to, Inner, Passes, Each, EachFrom}
use Rattle.grammar_algebra.specs.Grammar.{stage_after, Spells, inside}
use Rattle.grammar_algebra.specs.Reading.{nullable, at_each_stage}
use Rattle.grammar_algebra.specs.Statement.{place, BeginsWithin, Front}

-- ---- by the tokens alone

-- What the token before a place is: END, after which a word opens nothing; HANDLER, CURSOR or
-- CONDITION, after which FOR begins no loop; or another, or none.
pub data Before : Type 0 where
  End : Before
  Leading : Before
  Other : Before

-- whether the token is HANDLER, CURSOR or CONDITION, after which FOR begins no loop
abbrev pub is_leading : TokenKind → Bool
is_leading (kind.Word word.Handler) = true
is_leading (kind.Word word.Cursor) = true
is_leading (kind.Word word.Condition) = true
is_leading _ = false

-- what a token is for the one after it
abbrev pub before_of : TokenKind → Before
before_of k = if is_end k then End else if is_leading k then Leading else Other

-- what stands before the token at a place; nothing does before the first one
abbrev pub before_at : List Token → ℕ → Before
before_at tokens zero = Other
before_at tokens (suc at) = before_of (kind_at tokens at)

-- whether the token is `(`
abbrev pub is_left_paren : TokenKind → Bool
is_left_paren (kind.Sign sign.LeftParen) = true
is_left_paren _ = false

-- whether the token is `)`
abbrev pub is_right_paren : TokenKind → Bool
is_right_paren (kind.Sign sign.RightParen) = true
is_right_paren _ = false

-- whether the innermost construct stands in brackets
abbrev pub in_brackets : List Token → List ℕ → Bool
in_brackets tokens [] = false
in_brackets tokens (at ∷ opened) = is_left_paren (kind_at tokens at)

-- a loop's FOR: that of SUBSTRING stands right in brackets, each other one after a word that leads
-- to it or after END
abbrev pub is_loop : TokenKind → Before → Bool → Bool
is_loop (kind.Word word.For) Other false = true
is_loop _ before bracketed = false

-- whether the token at a place begins a loop by FOR, where these constructs are open
abbrev pub loops_at : List Token → ℕ → List ℕ → Bool
loops_at tokens at opened = is_loop (kind_at tokens at) (before_at tokens at)
    (in_brackets tokens opened)

-- whether a token of this kind closes the innermost construct
abbrev pub closing : TokenKind → Bool
closing (kind.Sign sign.RightParen) = true
closing (kind.Word word.End) = true
closing _ = false

-- The constructs open after the token at a place, from those open before it: it is added in front
-- where it opens one, `)` and END take the innermost away, and any other token leaves them.
abbrev pub open_past : List Token → ℕ → List ℕ → List ℕ
open_past tokens at opened =
    if opens_at tokens at || loops_at tokens at opened then at ∷ opened
    else if closing (kind_at tokens at) then drop 1 opened else opened

-- the constructs open after the n tokens from place i on
abbrev pub open_after : List Token → ℕ → ℕ → List ℕ
open_after tokens i zero = []
open_after tokens i (suc n) = open_past tokens (i + n) (open_after tokens i n)

-- ---- by a grammar

-- In what a rule spells, from the tokens up to the end, stands a beginning in which these
-- constructs are open.
abbrev pub Held : (R : Type 0) → Type 1
Held R = R → List Token → List Token → List ℕ → Type 0

-- The tokens up to the end are a beginning of a spelling, in which these constructs are open.
abbrev pub HasOpen : {R : Type 0} {Tree : R → Type 0} {A : Type 0} → List Token → Inner R Tree →
    Held R → Grammar R Tree A → List Token → List Token → List ℕ → Type 0
HasOpen all inner held (token kind) tokens end opened = (opened ≡ []) ×
    ((tokens ≡ end) ⊎ Passes kind tokens end)
HasOpen all inner held (nested opening r closing) tokens end opened =
    ((opened ≡ []) × (tokens ≡ end)) ⊎ ((first : List Token) × Passes opening tokens first
    × (((here : List ℕ) × (opened ≡ here ++ place all tokens ∷ []) × held r first end here)
    ⊎ ((opened ≡ []) × (x : _) × (last : List Token) × inner r x first last ×
    Passes closing last end)))
HasOpen all inner held (both g h) tokens end opened =
    HasOpen all inner held g tokens end opened ⊎
    ((x : _) × (middle : List Token) × Spells inner g x tokens middle ×
    HasOpen all inner held h middle end opened)
HasOpen all inner held (either g h) tokens end opened = HasOpen all inner held g tokens end opened ⊎
    HasOpen all inner held h tokens end opened
HasOpen all inner held (optional g) tokens end opened = ((opened ≡ []) × (tokens ≡ end)) ⊎
    HasOpen all inner held g tokens end opened
HasOpen all inner held (many g) tokens end opened =
    (xs : List _) × (middle : List Token) × Each (Spells inner g) xs tokens middle
    × (((opened ≡ []) × (middle ≡ end)) ⊎ HasOpen all inner held g middle end opened)
HasOpen all inner held (staged item next stage) tokens end opened =
    (xs : List _) × (middle : List Token) × EachFrom (λ s. Spells inner (item s)) next stage xs
    tokens middle
    × (((opened ≡ []) × (middle ≡ end)) ⊎ HasOpen all inner held (item (stage_after next stage xs))
    middle end opened)
HasOpen all inner held (map_to f g) tokens end opened = HasOpen all inner held g tokens end opened

-- the same in constructs, with at most n of them open, this one too
abbrev pub holds : {R : Type 0} {Tree : R → Type 0} → List Token →
    ((r : R) → Grammar R Tree (Tree r)) → ℕ → Held R
holds all rules zero = λ r tokens end opened. ⊥
holds all rules (suc n) = λ r tokens end opened. HasOpen all (inside rules n) (holds all rules n)
    (rules r) tokens end opened

-- From place i up to k stands a beginning of a spelling with at most n constructs open at once, and
-- at k these are open.
abbrev pub HasOpenAt : {R : Type 0} {Tree : R → Type 0} {A : Type 0} →
    ((r : R) → Grammar R Tree (Tree r)) → ℕ → Grammar R Tree A → List Token → ℕ → ℕ → List ℕ →
    Type 0
HasOpenAt rules n g tokens i k opened = (i ≤ k) × (k ≤ length tokens) ×
    HasOpen tokens (inside rules n) (holds tokens rules n) g (drop i tokens) (drop k tokens) opened

-- ---- whether the tokens tell the constructs of a grammar

-- some of what may stand before a token
pub record Befores : Type 0 where
  pub at_end : Bool
  pub at_leading : Bool
  pub at_other : Bool

-- whether this is one of those that may stand before
abbrev pub has : Before → Befores → Bool
has End s = s.at_end
has Leading s = s.at_leading
has Other s = s.at_other

-- nothing may stand before
abbrev pub none : Befores
none = record { at_end = false; at_leading = false; at_other = false }

-- anything may
abbrev pub any : Befores
any = record { at_end = true; at_leading = true; at_other = true }

-- anything but END
abbrev pub but_end : Befores
but_end = record { at_end = false; at_leading = true; at_other = true }

-- this alone may
abbrev pub only : Before → Befores
only End = record { at_end = true; at_leading = false; at_other = false }
only Leading = record { at_end = false; at_leading = true; at_other = false }
only Other = record { at_end = false; at_leading = false; at_other = true }

-- what may stand before in both cases
abbrev pub meet : Befores → Befores → Befores
meet s t = record {
  at_end = s.at_end && t.at_end;
  at_leading = s.at_leading && t.at_leading;
  at_other = s.at_other && t.at_other;
}

-- what may stand before in one case or the other
abbrev pub join : Befores → Befores → Befores
join s t = record {
  at_end = s.at_end || t.at_end;
  at_leading = s.at_leading || t.at_leading;
  at_other = s.at_other || t.at_other;
}

-- the first where the test holds, else the second
abbrev pub if_so : Bool → Befores → Befores → Befores
if_so true s t = s
if_so false s t = t

-- whether the second holds where the first does
abbrev pub implies : Bool → Bool → Bool
implies true b = b
implies false b = true

-- whether all that the first has the second has too
abbrev pub subset : Befores → Befores → Bool
subset s t = implies s.at_end t.at_end && (implies s.at_leading t.at_leading &&
    implies s.at_other t.at_other)

-- whether a token of this kind opens a construct, by what stands before it, and by whether it
-- stands right in brackets
abbrev pub opens_after : TokenKind → Before → Bool → Bool
opens_after k End bracketed = opening k true || is_loop k End bracketed
opens_after k Leading bracketed = opening k false || is_loop k Leading bracketed
opens_after k Other bracketed = opening k false || is_loop k Other bracketed

-- after what a token of this kind opens a construct
abbrev pub opening_befores : Bool → TokenKind → Befores
opening_befores bracketed k = record {
  at_end = opens_after k End bracketed;
  at_leading =
      opens_after k Leading bracketed;
  at_other = opens_after k Other bracketed;
}

-- after what a token of this kind opens none
abbrev pub other_befores : Bool → TokenKind → Befores
other_befores bracketed k = record {
  at_end = not (opens_after k End bracketed);
  at_leading =
      not (opens_after k Leading bracketed);
  at_other = not (opens_after k Other bracketed);
}

-- after what the first tokens of the grammar are told: those that open a construct of it open one,
-- the others none
abbrev pub stands : {R : Type 0} {Tree : R → Type 0} {A : Type 0} → Bool → Grammar R Tree A →
    Befores
stands bracketed (token kind) = other_befores bracketed kind
stands bracketed (nested opening r closing) = opening_befores bracketed opening
stands bracketed (both g h) = meet (stands bracketed g)
    (if_so (nullable g) (stands bracketed h) any)
stands bracketed (either g h) = meet (stands bracketed g) (stands bracketed h)
stands bracketed (optional g) = stands bracketed g
stands bracketed (many g) = stands bracketed g
stands bracketed (staged item next stage) = meet (stands bracketed (item First))
    (meet (stands bracketed (item Second)) (stands bracketed (item Third)))
stands bracketed (map_to f g) = stands bracketed g

-- what its last tokens are for a token after them
abbrev pub ends : {R : Type 0} {Tree : R → Type 0} {A : Type 0} → Grammar R Tree A → Befores
ends (token kind) = only (before_of kind)
ends (nested opening r closing) = only (before_of closing)
ends (both g h) = join (ends h) (if_so (nullable h) (ends g) none)
ends (either g h) = join (ends g) (ends h)
ends (optional g) = ends g
ends (many g) = ends g
ends (staged item next stage) = join (ends (item First))
    (join (ends (item Second)) (ends (item Third)))
ends (map_to f g) = ends g

-- whether both hold or neither does
abbrev pub same_truth : Bool → Bool → Bool
same_truth true b = b
same_truth false b = not b

-- whether what stands before is neither END nor a word that leads to FOR
abbrev pub is_other : Before → Bool
is_other Other = true
is_other _ = false

-- a token that opens no construct, wherever it stands, and closes one
abbrev pub always_closes : TokenKind → Bool
always_closes k = closing k && (subset any (other_befores true k) && subset any
    (other_befores false k))

-- All its tokens are told. The first argument says which rules stand in brackets.
abbrev pub told : {R : Type 0} {Tree : R → Type 0} {A : Type 0} → (R → Bool) → Bool →
    Grammar R Tree A → Bool
told in_round bracketed (token kind) = not (closing kind)
told in_round bracketed (nested opening r closing) = is_other (before_of opening) &&
    (same_truth (is_left_paren opening) (in_round r) && always_closes closing)
told in_round bracketed (both g h) = told in_round bracketed g &&
    (told in_round bracketed h && subset (ends g) (stands bracketed h))
told in_round bracketed (either g h) = told in_round bracketed g && told in_round bracketed h
told in_round bracketed (optional g) = told in_round bracketed g
told in_round bracketed (many g) = told in_round bracketed g && subset (ends g) (stands bracketed g)
told in_round bracketed (staged item next stage) =
    at_each_stage (λ s. told in_round bracketed (item s) && at_each_stage
    (λ t. subset (ends (item s)) (stands bracketed (item t))))
told in_round bracketed (map_to f g) = told in_round bracketed g

-- the same of what stands in a construct
abbrev pub rule_told : {R : Type 0} {Tree : R → Type 0} → (R → Bool) →
    ((r : R) → Grammar R Tree (Tree r)) → R → Bool
rule_told in_round rules r = told in_round (in_round r) (rules r) &&
    (stands (in_round r) (rules r)).at_other

-- ---- what holds then

module _ {R : Type 0} {Tree : R → Type 0} {A : Type 0} (rules : (r : R) → Grammar R Tree (Tree r))
    (g : Grammar R Tree A) where
  -- Where a beginning stands, the grammar has these constructs open at its end: those that are open
  -- by the tokens alone, no others, and no more than may be.
  abbrev pub TellOpenFrom : List Token → ℕ → Type 0
  TellOpenFrom tokens i = (n k : ℕ)
      → (BeginsWithin rules n g tokens i k → HasOpenAt rules n g tokens i k
      (open_after tokens i (k - i)))
      × ((opened : List ℕ) → HasOpenAt rules n g tokens i k opened →
      BeginsWithin rules n g tokens i k × (opened ≡ open_after tokens i (k - i)) ×
      (length opened ≤ n))

  -- From each place to the next one the grammar's open constructs change as the token there says.
  abbrev pub GoByStepsFrom : List Token → ℕ → Type 0
  GoByStepsFrom tokens i = (n k : ℕ) (opened next : List ℕ)
      → HasOpenAt rules n g tokens i k opened → HasOpenAt rules n g tokens i (k + 1) next →
      next ≡ open_past tokens k opened

  -- A beginning has at most n constructs open at once just where at each place in it at most n are
  -- open by the tokens alone.
  abbrev pub CountOpenFrom : List Token → ℕ → Type 0
  CountOpenFrom tokens i = (n k : ℕ)
      → (BeginsWithin rules n g tokens i k ↔ (Front rules g tokens i k ×
      ((m : ℕ) → m ≤ k - i → length (open_after tokens i m) ≤ n)))

  -- the same from each place
  abbrev pub TellOpen : Type 0
  TellOpen = (tokens : List Token) (i : ℕ) → TellOpenFrom tokens i

  -- from each place on: the constructs of the grammar change from token to token as those by the
  -- tokens do
  abbrev pub GoBySteps : Type 0
  GoBySteps = (tokens : List Token) (i : ℕ) → GoByStepsFrom tokens i

  -- from each place on: how many constructs are open at once the tokens tell
  abbrev pub CountOpen : Type 0
  CountOpen = (tokens : List Token) (i : ℕ) → CountOpenFrom tokens i

  -- the same from each place that does not stand right after END: what begins with a word that
  -- opens a construct, as a compound statement does, opens none there by the tokens alone
  abbrev pub TellOpenButAfterEnd : Type 0
  TellOpenButAfterEnd = (tokens : List Token) (i : ℕ) → follows_end tokens i ≡ false →
      TellOpenFrom tokens i

  -- the same steps from each place that does not stand right after END
  abbrev pub GoByStepsButAfterEnd : Type 0
  GoByStepsButAfterEnd = (tokens : List Token) (i : ℕ) → follows_end tokens i ≡ false →
      GoByStepsFrom tokens i

  -- the same count from each place that does not stand right after END
  abbrev pub CountOpenButAfterEnd : Type 0
  CountOpenButAfterEnd = (tokens : List Token) (i : ℕ) → follows_end tokens i ≡ false →
      CountOpenFrom tokens i

-- By the tokens alone n constructs are open at place k, and the token there opens one more.
abbrev pub OpensOneMore : ℕ → List Token → ℕ → ℕ → Type 0
OpensOneMore n tokens i k = (length (open_after tokens i (k - i)) ≡ n) ×
    (open_after tokens i (k + 1 - i) ≡ k ∷ open_after tokens i (k - i))

-- Where reading stops at k, it is for want of constructs just where the token at k opens one more
-- than may be open, and goes on.
abbrev pub DeepExactly : {R : Type 0} {Tree : R → Type 0} {A : Type 0} →
    ((r : R) → Grammar R Tree (Tree r)) → ℕ → Grammar R Tree A → List Token → ℕ →
    Result (A × ℕ) ParseFault → Type 0
DeepExactly rules n g tokens i (Ok p) = Unit {0}
DeepExactly rules n g tokens i (Err fault.NoMemory) = Unit {0}
DeepExactly rules n g tokens i (Err (fault.NoStatement k)) = Front rules g tokens i (k + 1) → ⊥
DeepExactly rules n g tokens i (Err (fault.TooDeep k)) = Front rules g tokens i (k + 1) ×
    OpensOneMore n tokens i k

-- What reading says of a statement, and of a part of one, by places in a list of tokens. A place is
-- a token's number, from 0; a grammar is read from place i on, where at most n constructs may be
-- open at once.
use Rattle.std.specs.Prelude.{◌≡◌, ℕ, suc, ◌+◌, ◌-◌, ◌≤◌, List, ◌∷◌, length, drop, Result, Ok, Err}
use Rattle.sql_lex.specs.Tokens.{kind_of}
use Rattle.sql_lex.specs.declared.token.Token.{Token}
use Rattle.grammar_algebra.specs.declared.TheConstants.{MOST_OPEN}
use Rattle.grammar_algebra.specs.declared.fault.ParseError.{ParseError}
use Rattle.grammar_algebra.specs.declared.fault.ParseError.TheVariants as error
use Rattle.grammar_algebra.specs.declared.fault.ParseFault.{ParseFault}
use Rattle.grammar_algebra.specs.declared.fault.ParseFault.TheVariants as fault
use Rattle.grammar_algebra.specs.Grammar.{Grammar, Spells, Cut, inside, begun, Opens}
use Rattle.grammar_algebra.specs.Reading.{Outcome, NoSpelling, TooDeep}

-- how many constructs may be open at once in a statement
abbrev pub most_open : ℕ
most_open = MOST_OPEN

module _ {R : Type 0} {Tree : R → Type 0} {A : Type 0} (rules : (r : R) → Grammar R Tree (Tree r))
    (n : ℕ) (g : Grammar R Tree A) (tokens : List Token) (i : ℕ) where
  -- The tree is spelled from place i up to place j, with at most n constructs open at once.
  abbrev pub SpellsWithin : A → ℕ → Type 0
  SpellsWithin tree j = (i ≤ j) × (j ≤ length tokens) ×
      Spells (inside rules n) g tree (drop i tokens) (drop j tokens)

  -- From i up to k stands a beginning of a spelling, with at most n constructs open in it.
  abbrev pub BeginsWithin : ℕ → Type 0
  BeginsWithin k = (i ≤ k) × (k ≤ length tokens) ×
      Cut (inside rules n) (begun rules n) g (drop i tokens) (drop k tokens)

module _ {R : Type 0} {Tree : R → Type 0} {A : Type 0} (rules : (r : R) → Grammar R Tree (Tree r))
  where
    -- the same, with any number of constructs open
    abbrev pub Front : Grammar R Tree A → List Token → ℕ → ℕ → Type 0
    Front g tokens i k = (n : ℕ) × BeginsWithin rules n g tokens i k

    -- the greatest place to which a beginning goes
    abbrev pub IsFurthest : ℕ → Grammar R Tree A → List Token → ℕ → ℕ → Type 0
    IsFurthest n g tokens i k = BeginsWithin rules n g tokens i k ×
        ((k' : ℕ) → BeginsWithin rules n g tokens i k' → k' ≤ k)

    -- No beginning goes further, with any number of constructs open.
    abbrev pub IsStuck : ℕ → Grammar R Tree A → List Token → ℕ → ℕ → Type 0
    IsStuck n g tokens i k = IsFurthest n g tokens i k × (Front g tokens i (k + 1) → ⊥)

    -- The token at k is of a kind that opens a construct.
    abbrev pub OpensAt : Grammar R Tree A → List Token → ℕ → Type 0
    OpensAt g tokens k = (t : Token) × (more : List Token) × (drop k tokens ≡ t ∷ more) ×
        Opens rules g (kind_of t.lexeme)

    -- No beginning goes further with at most n constructs open, but one goes on by the token at k,
    -- which opens one more.
    abbrev pub IsTooDeep : ℕ → Grammar R Tree A → List Token → ℕ → ℕ → Type 0
    IsTooDeep n g tokens i k = IsFurthest n g tokens i k ×
        BeginsWithin rules (suc n) g tokens i (k + 1) × OpensAt g tokens k

    -- Nothing is read from i on.
    abbrev pub ReadsNothing : ℕ → Grammar R Tree A → List Token → ℕ → Type 0
    ReadsNothing n g tokens i = (tree : A) (j : ℕ) → SpellsWithin rules n g tokens i tree j → ⊥

    -- At most one tree is spelled from i on, up to one place.
    abbrev pub IsOne : ℕ → Grammar R Tree A → List Token → ℕ → Type 0
    IsOne n g tokens i = (x : A) (j : ℕ) (y : A) (k : ℕ) → SpellsWithin rules n g tokens i x j →
        SpellsWithin rules n g tokens i y k → (x ≡ y) × (j ≡ k)

    -- The answer of a parser for a grammar with an end of its own, as a statement's `;`: the one tree
    -- that is spelled from i on, and the place after it; else where the longest beginning ends, and
    -- whether for want of constructs alone.
    abbrev pub Answers : ℕ → Grammar R Tree A → List Token → ℕ → Result (A × ℕ) ParseFault → Type 0
    Answers n g tokens i (Ok p) = SpellsWithin rules n g tokens i p.0 p.1
        × ((tree : A) (j : ℕ) → SpellsWithin rules n g tokens i tree j → (p.0 ≡ tree) × (p.1 ≡ j))
    Answers n g tokens i (Err (fault.NoStatement k)) = IsStuck n g tokens i k ×
        ReadsNothing n g tokens i
    Answers n g tokens i (Err (fault.TooDeep k)) = IsTooDeep n g tokens i k ×
        ReadsNothing n g tokens i
    Answers n g tokens i (Err fault.NoMemory) = Unit {0}

    -- The answer of a parser for a part of a statement, which has no end of its own, so that a whole
    -- spelling is a beginning too: with k the place where the longest beginning ends, the one tree
    -- that is spelled up to k, where there is one.
    abbrev pub PartAnswers : ℕ → Grammar R Tree A → List Token → ℕ → Result (A × ℕ) ParseFault →
        Type 0
    PartAnswers n g tokens i (Ok p) = IsStuck n g tokens i p.1 ×
        SpellsWithin rules n g tokens i p.0 p.1
        × ((tree : A) → SpellsWithin rules n g tokens i tree p.1 → p.0 ≡ tree)
    PartAnswers n g tokens i (Err (fault.NoStatement k)) = IsStuck n g tokens i k ×
        ((tree : A) → SpellsWithin rules n g tokens i tree k → ⊥)
    PartAnswers n g tokens i (Err (fault.TooDeep k)) = IsTooDeep n g tokens i k
    PartAnswers n g tokens i (Err fault.NoMemory) = Unit {0}

-- ---- of the reader's outcome

-- the place from which these tokens are left
abbrev pub place : List Token → List Token → ℕ
place tokens rest = length tokens - length rest

-- the outcome with places for what is left
abbrev pub at_places : {A : Type 0} → List Token → Outcome A → Result (A × ℕ) ParseFault
at_places tokens (Ok p) = Ok (p.0, place tokens p.1)
at_places tokens (Err (NoSpelling rest)) = Err (fault.NoStatement (place tokens rest))
at_places tokens (Err (TooDeep rest)) = Err (fault.TooDeep (place tokens rest))

-- ---- of a parser's answer

-- why nothing was read, with the place where the input stands
abbrev pub fault_at : ParseError → ℕ → ParseFault
fault_at error.NoMemory k = fault.NoMemory
fault_at error.NoStatement k = fault.NoStatement k
fault_at error.TooDeep k = fault.TooDeep k

-- what was read, or why nothing was, with the place where the input stands
abbrev pub answered : {A : Type 0} → Result A ParseError → ℕ → Result (A × ℕ) ParseFault
answered (Ok x) k = Ok (x, k)
answered (Err e) k = Err (fault_at e k)

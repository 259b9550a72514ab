-- What a function of a parser ensures: the reader's outcome, unless memory runs out. An `Err`
-- leaves the tokens from the failing place on.
use Rattle.std.specs.Prelude.{◌≡◌, List, Result, Ok, Err}
use Rattle.std.specs.Borrow.{Bor}
use Rattle.sql_lex.specs.declared.token.Token.{Token}
use Rattle.grammar_algebra.specs.declared.fault.ParseError.{ParseError}
use Rattle.grammar_algebra.specs.declared.fault.ParseError.TheVariants as error
use Rattle.grammar_algebra.specs.Reading.{Outcome, NoSpelling, TooDeep}

-- The parser's answer is the reader's outcome, and its tokens are those that this leaves; NoMemory
-- says nothing.
abbrev pub Reads : {A : Type 0} → Outcome A → Result A ParseError → List Token → Type 0
Reads outcome (Ok x) rest = outcome ≡ Ok (x, rest)
Reads outcome (Err error.NoMemory) rest = Unit {0}
Reads outcome (Err error.NoStatement) rest = outcome ≡ Err (NoSpelling rest)
Reads outcome (Err error.TooDeep) rest = outcome ≡ Err (TooDeep rest)

-- the answer of a function that lends a part of the tokens, at what it lends
abbrev pub lent : {A : Type 0} → Result (Bor A) ParseError → Result A ParseError
lent (Ok x) = Ok x.now
lent (Err e) = Err e

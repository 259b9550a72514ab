-- A small language, for worked rows and laws of the reader:
--
--     statement := [BEGIN {variable ';'} {cursor ';'} {handler ';'} END] sum ';'
--     variable  := DECLARE name
--     cursor    := DECLARE name CURSOR
--     handler   := DECLARE EXIT sum
--     sum       := operand {'+' operand}
--     operand   := number | name | '(' sum ')'
use Rattle.std.specs.Prelude.{◌≡◌, ℕ, true, List, [], ◌∷◌, Option, Some, None, ℤ, refl}
use Rattle.sql_lex.specs.declared.token.Token.{Token}
use Rattle.sql_lex.specs.declared.token.TokenKind.TheVariants as kind
use Rattle.sql_lex.specs.declared.word.Word.TheVariants as w
use Rattle.sql_lex.specs.declared.sign.Sign.TheVariants as s
use Rattle.grammar_algebra.specs.declared.stage.Stage.{Stage}
use Rattle.grammar_algebra.specs.declared.stage.Stage.TheVariants.{First, Second, Third}
use Rattle.grammar_algebra.specs.Grammar.{Grammar, nested, optional, many, staged}
use Rattle.grammar_algebra.specs.Notation.{word, sign, name, number, ◌~◌, ◌~>◌, ◌<~◌, ◌or◌, ◌=>◌}
use Rattle.grammar_algebra.specs.Notation.{name_of, number_of}
use Rattle.grammar_algebra.specs.Reading.{decides, same_kind, goes_on}

-- a sum: what it adds, and the places of its numbers, names and signs
pub data Sum : Type 0 where
  Number : ℕ → ℤ → Sum
  Column : ℕ → List ℕ → Sum
  Plus : ℕ → Sum → Sum → Sum

-- what a block declares: a variable or a cursor by its name, or a handler with its sum
pub data Declaration : Type 0 where
  Variable : List ℕ → Declaration
  Cursor : List ℕ → Declaration
  Handler : Sum → Declaration

-- what a construct holds
pub data Rule : Type 0 where
  Bracketed : Rule
  Block : Rule

-- the trees of what each construct holds
abbrev pub Tree : Rule → Type 0
Tree Bracketed = Sum
Tree Block = List Declaration

-- grammars of this language whose trees are of a type
abbrev pub G : Type 0 → Type 1
G A = Grammar Rule Tree A

-- `number | name | '(' sum ')'`
unfoldable pub operand : G Sum
operand =
    (λ t. Number t.number (number_of t.lexeme)) => number
    or (λ t. Column t.number (name_of t.lexeme)) => name
    or (λ p. p.1) => nested (kind.Sign s.LeftParen) Bracketed (kind.Sign s.RightParen)

-- the sum so far and what is added to it, from the left
abbrev pub added : Sum → List (Token × Sum) → Sum
added x [] = x
added x ((t, y) ∷ more) = added (Plus t.number x y) more

-- `operand {'+' operand}`, grouped from the left
unfoldable pub sum : G Sum
sum = (λ p. added p.0 p.1) => operand ~ many (sign s.Plus ~ operand)

-- the declarations that may still stand
unfoldable pub handler : G Declaration
handler = Handler => word w.Exit ~> sum

-- a cursor where CURSOR stands after the name, else a variable
abbrev pub declared : List ℕ → Option Token → Declaration
declared n (Some t) = Cursor n
declared n None = Variable n

-- `name [CURSOR]`: which of the two it is, the token after the name decides
unfoldable pub variable_or_cursor : G Declaration
variable_or_cursor = (λ p. declared (name_of p.0.lexeme) p.1) => name ~ optional (word w.Cursor)

-- `name CURSOR`
unfoldable pub cursor : G Declaration
cursor = (λ t. Cursor (name_of t.lexeme)) => name <~ word w.Cursor

-- what may be declared at each stage: what comes later may, what is over may not
abbrev pub at_stage : Stage → G Declaration
at_stage First = variable_or_cursor or handler
at_stage Second = cursor or handler
at_stage Third = handler

-- `DECLARE` what may stand at the stage, and `;`
unfoldable pub declaration : Stage → G Declaration
declaration stage = word w.Declare ~> at_stage stage <~ sign s.Semicolon

-- the stage after a declaration: a cursor ends the variables, a handler ends both
abbrev pub next_stage : Stage → Declaration → Stage
next_stage stage (Variable n) = stage
next_stage stage (Cursor n) = Second
next_stage stage (Handler x) = Third

-- `BEGIN` declarations `END`
unfoldable pub block : G (List Declaration)
block = (λ p. p.1) => nested (kind.Word w.Begin) Block (kind.Word w.End)

-- `[block] sum ';'`
unfoldable pub statement : G (Option (List Declaration) × Sum)
statement = optional block ~ sum <~ sign s.Semicolon

-- what stands in each construct: a sum in brackets, declarations in a block
abbrev pub rules : (r : Rule) → G (Tree r)
rules Bracketed = sum
rules Block = staged declaration next_stage First

-- ---- one token ahead decides

-- One token ahead decides what stands in each construct,
pub rules_decide : (r : Rule) → decides rules (rules r) ≡ true
unfolding same_kind operand sum handler variable_or_cursor cursor declaration block statement
rules_decide Bracketed = refl
rules_decide Block = refl

-- and the statement;
pub statement_decides : decides rules statement ≡ true
unfolding same_kind operand sum handler variable_or_cursor cursor declaration block statement
statement_decides = refl

-- and no token goes on with a whole statement, since it ends by `;`.
pub statement_ends : goes_on statement ≡ []
unfolding same_kind operand sum handler variable_or_cursor cursor declaration block statement
statement_ends = refl

-- Worked rows: what the reader reads of the small language.
use Rattle.std.specs.Prelude.{zero, suc, ◌≡◌, ℕ, ◌+◌, List, [], ◌∷◌, Some, None, pos, refl, Ok, Err}
use Rattle.std.specs.Prelude.{drop}
use Rattle.sql_lex.specs.declared.token.Lexeme.{Lexeme}
use Rattle.sql_lex.specs.declared.token.Lexeme.TheVariants as lexeme
use Rattle.sql_lex.specs.declared.token.Token.{Token}
use Rattle.sql_lex.specs.declared.word.Word.TheVariants as w
use Rattle.sql_lex.specs.declared.sign.Sign.TheVariants as s
use Rattle.grammar_algebra.specs.Statement.{most_open}
use Rattle.grammar_algebra.specs.Reading.{reading, NoSpelling, TooDeep, same_kind}
use Rattle.grammar_algebra.specs.SmallLanguage.{Number, Column, Plus, Variable, Cursor, Handler}
use Rattle.grammar_algebra.specs.SmallLanguage.{operand, sum, handler, variable_or_cursor, cursor}
use Rattle.grammar_algebra.specs.SmallLanguage.{declaration, block, statement, rules}

-- tokens of these lexemes, each a byte long on one line, numbered from n on
abbrev pub numbered : ℕ → List Lexeme → List Token
numbered n [] = []
numbered n (l ∷ ls) = record {
  lexeme = l;
  number = n;
  start = n;
  end = n + 1;
  line = 1;
  column =
      n + 1;
} ∷ numbered (n + 1) ls

-- the tokens, numbered from 0
abbrev pub tokens_of : List Lexeme → List Token
tokens_of ls = numbered 0 ls

-- the names X and C
abbrev pub x : Lexeme
x = lexeme.Name (88 ∷ [])

-- the name C
abbrev pub c : Lexeme
c = lexeme.Name (67 ∷ [])

-- the number 1
abbrev pub one : Lexeme
one = lexeme.Number (pos 1)

-- BEGIN DECLARE X; DECLARE C CURSOR; DECLARE EXIT 1; END X + (1);
abbrev pub with_block : List Token
with_block = tokens_of (lexeme.Word w.Begin ∷ lexeme.Word w.Declare ∷ x ∷ lexeme.Sign s.Semicolon
    ∷ lexeme.Word w.Declare ∷ c ∷ lexeme.Word w.Cursor ∷ lexeme.Sign s.Semicolon
    ∷ lexeme.Word w.Declare ∷ lexeme.Word w.Exit ∷ one ∷ lexeme.Sign s.Semicolon ∷ lexeme.Word w.End
    ∷ x ∷ lexeme.Sign s.Plus ∷ lexeme.Sign s.LeftParen ∷ one ∷ lexeme.Sign s.RightParen ∷
    lexeme.Sign s.Semicolon ∷ [])

-- declarations of each stage before a sum with brackets: one construct open at once is enough
pub is_read : reading rules 1 statement with_block
    ≡ Ok (
      (
        Some (Variable (88 ∷ []) ∷ Cursor (67 ∷ []) ∷ Handler (Number 10 (pos 1)) ∷ []),
        Plus 14
            (Column 13 (88 ∷ [])) (Number 16 (pos 1)),
      ),
      [],
    )
unfolding same_kind operand sum handler variable_or_cursor cursor declaration block statement
is_read = refl

-- BEGIN DECLARE C CURSOR; DECLARE X; .. : after a cursor only a cursor may have a name, so the
-- refusal stands at the second `;`.
abbrev pub variable_after_cursor : List Token
variable_after_cursor = tokens_of (lexeme.Word w.Begin ∷ lexeme.Word w.Declare ∷ c ∷
    lexeme.Word w.Cursor ∷ lexeme.Sign s.Semicolon
    ∷ lexeme.Word w.Declare ∷ x ∷ lexeme.Sign s.Semicolon ∷ lexeme.Word w.End ∷ one ∷
    lexeme.Sign s.Semicolon ∷ [])

-- Reading stops at the eighth token, the `;` after a second name without CURSOR.
pub is_refused : reading rules 24 statement variable_after_cursor ≡
    Err (NoSpelling (drop 7 variable_after_cursor))
unfolding same_kind operand sum handler variable_or_cursor cursor declaration block statement
is_refused = refl

-- ((1));
abbrev pub two_deep : List Token
two_deep = tokens_of (lexeme.Sign s.LeftParen ∷ lexeme.Sign s.LeftParen ∷ one ∷
    lexeme.Sign s.RightParen ∷ lexeme.Sign s.RightParen ∷ lexeme.Sign s.Semicolon ∷ [])

-- With room for one construct the second bracket is one too many.
pub is_too_deep : reading rules 1 statement two_deep ≡ Err (TooDeep (drop 1 two_deep))
unfolding same_kind operand sum handler variable_or_cursor cursor declaration block statement
is_too_deep = refl

-- With room for two it is read.
pub is_deep_enough : reading rules 2 statement two_deep ≡ Ok ((None, Number 2 (pos 1)), [])
unfolding same_kind operand sum handler variable_or_cursor cursor declaration block statement
is_deep_enough = refl

-- as many brackets round 1, and `;`
abbrev pub times : ℕ → Lexeme → List Lexeme → List Lexeme
times zero l ls = ls
times (suc n) l ls = l ∷ times n l ls

-- the tokens of 1 in n brackets, and `;`
abbrev pub bracketed : ℕ → List Token
bracketed n = tokens_of (times n (lexeme.Sign s.LeftParen)
    (one ∷ times n (lexeme.Sign s.RightParen) (lexeme.Sign s.Semicolon ∷ [])))

-- As many brackets as may be open are read,
pub is_within_limit : reading rules most_open statement (bracketed 24) ≡
    Ok ((None, Number 24 (pos 1)), [])
unfolding same_kind operand sum handler variable_or_cursor cursor declaration block statement
is_within_limit = refl

-- and one more is refused at its own place.
pub is_beyond_limit : reading rules most_open statement (bracketed 25) ≡
    Err (TooDeep (drop 24 (bracketed 25)))
unfolding same_kind operand sum handler variable_or_cursor cursor declaration block statement
is_beyond_limit = refl

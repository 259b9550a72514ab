-- How the signs are spelled, by the codes of their characters.
use Rattle.std.specs.Prelude.{ℕ, Bool, false, ◌||◌, nat_eq, List, codes}
use Rattle.sql_lex.specs.declared.sign.Sign.{Sign}
use Rattle.sql_lex.specs.declared.sign.Sign.TheVariants as sign

-- how each sign is written
abbrev pub sign_spelling : Sign → List ℕ
sign_spelling sign.LeftParen = codes "("
sign_spelling sign.RightParen = codes ")"
sign_spelling sign.Comma = codes ","
sign_spelling sign.Semicolon = codes ";"
sign_spelling sign.Colon = codes ":"
sign_spelling sign.Period = codes "."
sign_spelling sign.QuestionMark = codes "?"
sign_spelling sign.Equals = codes "="
sign_spelling sign.NotEquals = codes "<>"
sign_spelling sign.LessThan = codes "<"
sign_spelling sign.LessThanOrEquals = codes "<="
sign_spelling sign.GreaterThan = codes ">"
sign_spelling sign.GreaterThanOrEquals = codes ">="
sign_spelling sign.Plus = codes "+"
sign_spelling sign.Minus = codes "-"
sign_spelling sign.Asterisk = codes "*"
sign_spelling sign.Solidus = codes "/"
sign_spelling sign.Concatenation = codes "||"

-- whether a byte right after goes on with a sign: to a longer sign, or to the beginning of a
-- comment
abbrev pub sign_goes_on : Sign → ℕ → Bool
sign_goes_on sign.LessThan b = nat_eq b 61 || nat_eq b 62
sign_goes_on sign.GreaterThan b = nat_eq b 61
sign_goes_on sign.Minus b = nat_eq b 45
sign_goes_on sign.Solidus b = nat_eq b 42
sign_goes_on _ b = false

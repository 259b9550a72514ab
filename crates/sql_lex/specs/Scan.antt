-- What stands at the head of some bytes, as one function of them: what the scanning functions give.
-- What tokens are is said in Tokens, and proofs/ shows that both agree.
use Rattle.std.specs.Prelude.{ℕ, ◌≡◌, ◌+◌, nat_eq, nat_le, pos, ℤ, not, ◌&&◌, Bool, false}
use Rattle.std.specs.Prelude.{if◌then◌else◌, Option, Some, None, List, [], ◌∷◌, ◌++◌, length, take}
use Rattle.std.specs.Prelude.{drop, slice_index}
use Rattle.std.specs.List.{prefix_len, find}
use Rattle.std.specs.Str.{bytes_eq, is_utf8, chars}
use Rattle.sql_texts.specs.Names.{is_letter, is_digit, is_name_part, begins_by, folded}
use Rattle.sql_texts.specs.Names.{most_characters}
use Rattle.sql_lex.specs.declared.token.Lexeme.{Lexeme}
use Rattle.sql_lex.specs.declared.token.Lexeme.TheVariants as lexeme
use Rattle.sql_lex.specs.declared.step.Step.{Step}
use Rattle.sql_lex.specs.declared.step.Step.TheVariants as step
use Rattle.sql_lex.specs.declared.word.Word.{Word}
use Rattle.sql_lex.specs.declared.word.Word.TheVariants as word
use Rattle.sql_lex.specs.declared.sign.Sign.{Sign}
use Rattle.sql_lex.specs.declared.sign.Sign.TheVariants as sign
use Rattle.sql_lex.specs.Words.{spelling}
use Rattle.sql_lex.specs.Tokens.{is_blank, is_line_feed, is_quote, digits_value, most_number}
use Rattle.sql_lex.specs.Tokens.{most_text}

-- the reserved words that begin with a capital
abbrev pub words_of : ℕ → List Word
words_of b =
    if nat_eq b 65 then word.And ∷ word.As ∷ word.Asc ∷ word.Atomic ∷ word.Avg ∷ [] else
    if nat_eq b 66 then word.Begin ∷ word.Boolean ∷ word.By ∷ [] else
    if nat_eq b 67 then word.Call ∷ word.Called ∷ word.Case ∷ word.Cast ∷ word.Certificate ∷
    word.CharLength ∷ word.Close ∷ word.Coalesce ∷ word.Condition ∷ word.Contains ∷
    word.Continue ∷ word.Count ∷ word.Create ∷ word.Cross ∷ word.Current ∷ word.Cursor ∷ [] else
    if nat_eq b 68 then word.Data ∷ word.Decimal ∷ word.Declare ∷ word.Default ∷ word.Delete ∷
    word.Desc ∷ word.Deterministic ∷ word.Diagnostics ∷ word.Do ∷ word.Drop ∷ [] else
    if nat_eq b 69 then word.Else ∷ word.Elseif ∷ word.End ∷ word.Exists ∷ word.Exit ∷
    word.Explain ∷ [] else
    if nat_eq b 70 then word.False ∷ word.Fetch ∷ word.For ∷ word.Found ∷ word.From ∷
    word.Function ∷ [] else
    if nat_eq b 71 then word.Get ∷ word.Group ∷ [] else
    if nat_eq b 72 then word.Handler ∷ word.Having ∷ [] else
    if nat_eq b 73 then word.If ∷ word.In ∷ word.Inner ∷ word.Inout ∷ word.Input ∷ word.Insert ∷
    word.Int ∷ word.Integer ∷ word.Into ∷ word.Is ∷ word.Iterate ∷ [] else
    if nat_eq b 74 then word.Join ∷ [] else
    if nat_eq b 75 then word.Key ∷ [] else
    if nat_eq b 76 then word.Language ∷ word.Lateral ∷ word.Leave ∷ word.Left ∷ word.Loop ∷ [] else
    if nat_eq b 77 then word.Max ∷ word.MessageText ∷ word.Min ∷ word.Mod ∷ word.Modifies ∷ [] else
    if nat_eq b 78 then word.Next ∷ word.Not ∷ word.Null ∷ word.Number ∷ [] else
    if nat_eq b 79 then word.On ∷ word.Open ∷ word.Or ∷ word.Order ∷ word.Out ∷ word.Outer ∷ [] else
    if nat_eq b 80 then word.Primary ∷ word.Procedure ∷ [] else
    if nat_eq b 82 then word.Reads ∷ word.Repeat ∷ word.Resignal ∷ word.Restrict ∷ word.Return ∷
    word.ReturnedSqlstate ∷ word.Returns ∷ word.RowCount ∷ [] else
    if nat_eq b 83 then word.Select ∷ word.Set ∷ word.Signal ∷ word.Sql ∷ word.Sqlexception ∷
    word.Sqlstate ∷ word.Sqlwarning ∷ word.Stacked ∷ word.Substring ∷ word.Sum ∷ [] else
    if nat_eq b 84 then word.Table ∷ word.Then ∷ word.True ∷ [] else
    if nat_eq b 85 then word.Undo ∷ word.Unknown ∷ word.Until ∷ word.Update ∷ [] else
    if nat_eq b 86 then word.Value ∷ word.Values ∷ word.Varchar ∷ [] else
    if nat_eq b 87 then word.When ∷ word.Where ∷ word.While ∷ [] else
    []

-- whether the bytes begin with these two
abbrev pub begins_with : ℕ → ℕ → List ℕ → Bool
begins_with b c [] = false
begins_with b c (x ∷ []) = false
begins_with b c (x ∷ (y ∷ ys)) = nat_eq x b && nat_eq y c

-- the reserved word that capitals spell
abbrev pub reserved : List ℕ → Option Word
reserved capitals = find (λ w. bytes_eq (spelling w) capitals) (words_of (slice_index capitals 0))

-- the lexeme that a folded word is
abbrev pub lexeme_of : Option Word → List ℕ → Lexeme
lexeme_of None capitals = lexeme.Name capitals
lexeme_of (Some w) capitals = lexeme.Word w

-- at a letter
abbrev pub word_step : List ℕ → Step
word_step bytes =
    let width = prefix_len is_name_part bytes in
    if nat_le width most_characters then step.Token
    (lexeme_of (reserved (folded (take width bytes))) (folded (take width bytes))) width else
    step.Bad

-- the number that digits write, where it is in range
abbrev pub number_of : List ℕ → Option ℤ
number_of digits = if nat_le (digits_value digits) most_number then Some (pos (digits_value digits))
    else None

-- the token of a number that took so many bytes; Bad where it is out of range
abbrev pub number_token : Option ℤ → ℕ → Step
number_token None width = step.Bad
number_token (Some n) width = step.Token (lexeme.Number n) width

-- at a digit
abbrev pub number_step : List ℕ → Step
number_step bytes =
    let width = prefix_len is_digit bytes in
    if begins_by is_name_part (drop width bytes) then step.Bad else number_token
    (number_of (take width bytes)) width

-- how many bytes the byte at the head of a text's rest takes; none at the quote that closes the
-- text
abbrev pub width_in_text : List ℕ → Option ℕ
width_in_text bytes = if not (is_quote (slice_index bytes 0)) then Some 1 else if begins_with 39 39
    bytes then Some 2 else None

-- with more bytes in front, which took some bytes to write
abbrev pub with_front : List ℕ → ℕ → Option (List ℕ × ℕ) → Option (List ℕ × ℕ)
with_front front width None = None
with_front front width (Some r) = Some (front ++ r.0, width + r.1)

-- after an opening quote: the bytes of the text, and how many bytes stand up to the closing quote
-- and with it
abbrev pub unquoted : List ℕ → Option (List ℕ × ℕ)
unquoted [] = None
unquoted (b ∷ []) = if is_quote b then Some ([], 1) else None
unquoted (b ∷ (c ∷ cs)) =
    if is_quote b then (if is_quote c then with_front (b ∷ []) 2 (unquoted cs) else Some ([], 1))
    else with_front (b ∷ []) 1 (unquoted (c ∷ cs))

-- the width that `unquoted` gives, with its bytes added to a list
abbrev pub IsUnquoted : Option (List ℕ × ℕ) → List ℕ → List ℕ → Option ℕ → Type 0
IsUnquoted read old new None = read ≡ None
IsUnquoted read old new (Some width) = (text : List ℕ) × (read ≡ Some (text, width)) ×
    (new ≡ old ++ text)

-- the text of these characters, where they are within the limit
abbrev pub text_within : List ℕ → Option (List ℕ)
text_within characters = if nat_le (length characters) most_text then Some characters else None

-- the text of these bytes, where they are UTF-8 and within the limit
abbrev pub text_of : List ℕ → Option (List ℕ)
text_of bytes = if is_utf8 bytes then text_within (chars bytes) else None

-- the token of a text that took so many bytes; Bad where it is no text
abbrev pub text_token : Option (List ℕ) → ℕ → Step
text_token None width = step.Bad
text_token (Some text) width = step.Token (lexeme.Text text) width

-- the token of what was read after an opening quote, with that quote; Bad without a closing one
abbrev pub quoted_token : Option (List ℕ × ℕ) → Step
quoted_token None = step.Bad
quoted_token (Some r) = text_token (text_of r.0) (1 + r.1)

-- at a quote
abbrev pub text_step : List ℕ → Step
text_step bytes = quoted_token (unquoted (drop 1 bytes))

-- a number more, where there is a number
abbrev pub plus : ℕ → Option ℕ → Option ℕ
plus n None = None
plus n (Some k) = Some (n + k)

-- how many bytes stand up to the first `*/` and with it
abbrev pub close_end : List ℕ → Option ℕ
close_end [] = None
close_end (b ∷ bs) = if begins_with 42 47 (b ∷ bs) then Some 2 else plus 1 (close_end bs)

-- a gap of so many bytes; Bad where a comment has no end
abbrev pub gap_of : Option ℕ → Step
gap_of None = step.Bad
gap_of (Some width) = step.Gap width

-- at `/*`
abbrev pub block_step : List ℕ → Step
block_step bytes = gap_of (plus 2 (close_end (drop 2 bytes)))

-- at `--`
abbrev pub line_step : List ℕ → Step
line_step bytes = step.Gap (prefix_len (λ b. not (is_line_feed b)) bytes)

-- the sign of two characters
abbrev pub long_sign : ℕ → ℕ → Option Sign
long_sign b c =
    if nat_eq b 60 && nat_eq c 62 then Some sign.NotEquals
    else if nat_eq b 60 && nat_eq c 61 then Some sign.LessThanOrEquals
    else if nat_eq b 62 && nat_eq c 61 then Some sign.GreaterThanOrEquals
    else if nat_eq b 124 && nat_eq c 124 then Some sign.Concatenation
    else None

-- the sign of one character
abbrev pub short_sign : ℕ → Option Sign
short_sign b =
    if nat_eq b 40 then Some sign.LeftParen
    else if nat_eq b 41 then Some sign.RightParen
    else if nat_eq b 44 then Some sign.Comma
    else if nat_eq b 59 then Some sign.Semicolon
    else if nat_eq b 58 then Some sign.Colon
    else if nat_eq b 46 then Some sign.Period
    else if nat_eq b 63 then Some sign.QuestionMark
    else if nat_eq b 61 then Some sign.Equals
    else if nat_eq b 60 then Some sign.LessThan
    else if nat_eq b 62 then Some sign.GreaterThan
    else if nat_eq b 43 then Some sign.Plus
    else if nat_eq b 45 then Some sign.Minus
    else if nat_eq b 42 then Some sign.Asterisk
    else if nat_eq b 47 then Some sign.Solidus
    else None

-- the token of a sign that takes so many bytes, or else another step
abbrev pub sign_token : Option Sign → ℕ → Step → Step
sign_token None width other = other
sign_token (Some sign) width other = step.Token (lexeme.Sign sign) width

-- at anything else: the longer sign, else the shorter one, else Bad
abbrev pub sign_step : List ℕ → Step
sign_step bytes =
    sign_token (long_sign (slice_index bytes 0) (slice_index bytes 1)) 2
    (sign_token (short_sign (slice_index bytes 0)) 1 step.Bad)

-- what stands at the head of the bytes, of which there is one
abbrev pub step_of : List ℕ → Step
step_of bytes =
    let b = slice_index bytes 0 in
    if is_blank b then step.Gap 1
    else if is_letter b then word_step bytes
    else if is_digit b then number_step bytes
    else if is_quote b then text_step bytes
    else if begins_with 45 45 bytes then line_step bytes
    else if begins_with 47 42 bytes then block_step bytes
    else sign_step bytes

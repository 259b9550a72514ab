-- Which tokens open a construct by the tokens alone, and where tokens stand.
use Rattle.std.specs.Prelude.{ℕ, zero, suc, Bool, true, false, not, ◌&&◌, nat_lt, if◌then◌else◌}
use Rattle.std.specs.Prelude.{List, length, slice_index_or}
use Rattle.sql_lex.specs.declared.token.TokenKind.{TokenKind}
use Rattle.sql_lex.specs.declared.token.TokenKind.TheVariants as kind
use Rattle.sql_lex.specs.declared.token.Lexeme.TheVariants as lexeme
use Rattle.sql_lex.specs.declared.token.Token.{Token}
use Rattle.sql_lex.specs.declared.word.Word.{Word}
use Rattle.sql_lex.specs.declared.word.Word.TheVariants as word
use Rattle.sql_lex.specs.declared.sign.Sign.TheVariants as sign
use Rattle.sql_lex.specs.Places.{origin}
use Rattle.sql_lex.specs.Tokens.{kind_of, token_at, Lexing}

-- the kind of the token at a place in the list; past the end a Bad one
abbrev pub kind_at : List Token → ℕ → TokenKind
kind_at tokens at = kind_of (slice_index_or tokens at (token_at lexeme.Bad 0 origin 0)).lexeme

-- the words that open a construct, where END does not stand right before them
abbrev pub is_opening_word : Word → Bool
is_opening_word word.Case = true
is_opening_word word.Begin = true
is_opening_word word.If = true
is_opening_word word.Loop = true
is_opening_word word.While = true
is_opening_word word.Repeat = true
is_opening_word _ = false

-- the kind is that of the word END
abbrev pub is_end : TokenKind → Bool
is_end (kind.Word word.End) = true
is_end _ = false

-- whether the token before the one at a place is END
abbrev pub follows_end : List Token → ℕ → Bool
follows_end tokens zero = false
follows_end tokens (suc before) = is_end (kind_at tokens before)

-- whether a token of this kind opens a construct, where END stands right before it or not
abbrev pub opening : TokenKind → Bool → Bool
opening (kind.Sign sign.LeftParen) after_end = true
opening (kind.Word word) after_end = is_opening_word word && not after_end
opening _ after_end = false

-- the token at a place in the list opens a construct; past the end none does
abbrev pub opens_at : List Token → ℕ → Bool
opens_at tokens at = opening (kind_at tokens at) (follows_end tokens at)

-- the line and the column of the token at a place in the list; of the end, where none is there
abbrev pub place_at : Lexing → ℕ → ℕ × ℕ
place_at lexing at =
    if nat_lt at (length lexing.tokens)
    then (
      (slice_index_or lexing.tokens at (token_at lexeme.Bad 0 origin 0)).line,
      (slice_index_or lexing.tokens at (token_at lexeme.Bad 0 origin 0)).column,
    )
    else (lexing.end_line, lexing.end_column)

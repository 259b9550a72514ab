-- The tokens of a script (ISO/IEC 9075-2, 5.2, with the profile's limits): what spells a token,
-- what stands between tokens, where a token ends, and which list of tokens a script has.
use Rattle.std.specs.Prelude.{ℕ, ◌≡◌, ◌≤◌, ◌<◌, ◌+◌, ◌-◌, ◌*◌, ◌⊎◌, ◌||◌, ◌&&◌, not, nat_eq, pos}
use Rattle.std.specs.Prelude.{Bool, true, false, if◌then◌else◌, List, [], ◌∷◌, ◌++◌, length}
use Rattle.std.specs.List.{list_all, fold, concat}
use Rattle.std.specs.Str.{encode_utf8_all, all_scalars}
use Rattle.sql_texts.specs.declared.TheConstants.{MOST_TEXT}
use Rattle.sql_texts.specs.Names.{is_digit, is_name_part, begins_by, folded, IsWordLike}
use Rattle.sql_lex.specs.declared.token.Lexeme.{Lexeme}
use Rattle.sql_lex.specs.declared.token.Lexeme.TheVariants as lexeme
use Rattle.sql_lex.specs.declared.token.TokenKind.{TokenKind}
use Rattle.sql_lex.specs.declared.token.TokenKind.TheVariants as kind
use Rattle.sql_lex.specs.declared.token.Token.{Token}
use Rattle.sql_lex.specs.declared.word.Word.{Word}
use Rattle.sql_lex.specs.declared.position.Position.{Position}
use Rattle.sql_lex.specs.declared.step.TheConstants.{MOST_NUMBER}
use Rattle.sql_lex.specs.Words.{spelling}
use Rattle.sql_lex.specs.Signs.{sign_spelling, sign_goes_on}
use Rattle.sql_lex.specs.Places.{origin, past}

-- what rules ask of a lexeme
abbrev pub kind_of : Lexeme → TokenKind
kind_of (lexeme.Name name) = kind.Name
kind_of (lexeme.Word word) = kind.Word word
kind_of (lexeme.Number n) = kind.Number
kind_of (lexeme.Text text) = kind.Text
kind_of (lexeme.Sign sign) = kind.Sign sign
kind_of lexeme.Bad = kind.Bad

-- the greatest number that a script writes
abbrev pub most_number : ℕ
most_number = MOST_NUMBER

-- the most characters of a text
abbrev pub most_text : ℕ
most_text = MOST_TEXT

-- the byte of a single quote, which opens and closes a text
abbrev pub is_quote : ℕ → Bool
is_quote b = nat_eq b 39

-- the byte of a LF, which ends a line and a comment of one line
abbrev pub is_line_feed : ℕ → Bool
is_line_feed b = nat_eq b 10

-- a space, a tab, a CR or a LF
abbrev pub is_blank : ℕ → Bool
is_blank b = (nat_eq b 32 || nat_eq b 9) || (nat_eq b 13 || nat_eq b 10)

-- the number that digits write
abbrev pub digits_value : List ℕ → ℕ
digits_value bytes = fold (λ n b. 10 * n + (b - 48)) 0 bytes

-- the bytes with each quote written twice
abbrev pub doubled : List ℕ → List ℕ
doubled [] = []
doubled (b ∷ bs) = if is_quote b then b ∷ (b ∷ doubled bs) else b ∷ doubled bs

-- the bytes spell the lexeme
abbrev pub Spells : Lexeme → List ℕ → Type 0
Spells (lexeme.Name name) bytes = IsWordLike bytes × (name ≡ folded bytes) ×
    ((word : Word) → ¬ (folded bytes ≡ spelling word))
Spells (lexeme.Word word) bytes = IsWordLike bytes × (folded bytes ≡ spelling word)
Spells (lexeme.Number n) bytes = (0 < length bytes) × (list_all is_digit bytes ≡ true) ×
    (digits_value bytes ≤ most_number) × (n ≡ pos (digits_value bytes))
Spells (lexeme.Text text) bytes = (all_scalars text ≡ true) × (length text ≤ most_text) ×
    (bytes ≡ 39 ∷ (doubled (encode_utf8_all text) ++ 39 ∷ []))
Spells (lexeme.Sign sign) bytes = bytes ≡ sign_spelling sign
Spells lexeme.Bad bytes = ⊥

-- whether a byte right after goes on with such a token: so a token is the longest that begins at
-- its place, a name past its limit is none, and a number is not followed at once by a letter or `_`
abbrev pub goes_on : Lexeme → ℕ → Bool
goes_on (lexeme.Name name) b = is_name_part b
goes_on (lexeme.Word word) b = is_name_part b
goes_on (lexeme.Number n) b = is_name_part b
goes_on (lexeme.Text text) b = is_quote b
goes_on (lexeme.Sign sign) b = sign_goes_on sign b
goes_on lexeme.Bad b = false

-- the bytes, before the rest, are a token of this lexeme
abbrev pub IsLexeme : Lexeme → List ℕ → List ℕ → Type 0
IsLexeme lexeme bytes rest = Spells lexeme bytes × (begins_by (goes_on lexeme) rest ≡ false)

-- whether `*/` stands in the bytes
abbrev pub has_close : List ℕ → Bool
has_close [] = false
has_close (b ∷ bs) = (nat_eq b 42 && begins_by (λ c. nat_eq c 47) bs) || has_close bs

-- a blank; a comment from `--` to the end of the line; a comment from `/*` to the next `*/`
abbrev pub IsBlank : List ℕ → Type 0
IsBlank bytes = (b : ℕ) × (is_blank b ≡ true) × (bytes ≡ b ∷ [])

-- `--` and what follows up to the end of the line, which is not part of it
abbrev pub IsLineComment : List ℕ → List ℕ → Type 0
IsLineComment bytes rest = (body : List ℕ) × (list_all (λ b. not (is_line_feed b)) body ≡ true) ×
    (begins_by (λ b. not (is_line_feed b)) rest ≡ false) × (bytes ≡ 45 ∷ (45 ∷ body))

-- from `/*` to the first `*/` after it, and with it; comments don't nest
abbrev pub IsBlockComment : List ℕ → Type 0
IsBlockComment bytes = (body : List ℕ) × (has_close (body ++ 42 ∷ []) ≡ false) ×
    (bytes ≡ 47 ∷ (42 ∷ (body ++ 42 ∷ (47 ∷ []))))

-- the bytes, before the rest, are one of these
abbrev pub IsPiece : List ℕ → List ℕ → Type 0
IsPiece bytes rest = IsBlank bytes ⊎ (IsLineComment bytes rest ⊎ IsBlockComment bytes)

-- each of the parts is a piece before what follows it
abbrev pub ArePieces : List (List ℕ) → List ℕ → Type 0
ArePieces [] rest = Unit {0}
ArePieces (part ∷ parts) rest = IsPiece part (concat parts ++ rest) × ArePieces parts rest

-- what may stand between tokens: any number of pieces
abbrev pub IsGap : List ℕ → List ℕ → Type 0
IsGap bytes rest = (parts : List (List ℕ)) × (bytes ≡ concat parts) × ArePieces parts rest

-- at the head of the bytes stand neither a token nor a piece
abbrev pub BeginsNothing : List ℕ → Type 0
BeginsNothing bytes = (head rest : List ℕ) → bytes ≡ head ++ rest → (¬ (IsPiece head rest)) ×
    ((lexeme : Lexeme) → ¬ (IsLexeme lexeme head rest))

-- the token of a lexeme with its number, its place and its length
abbrev pub token_at : Lexeme → ℕ → Position → ℕ → Token
token_at lexeme number p width = record {
  lexeme = lexeme;
  number = number;
  start = p.at;
  end =
      p.at + width;
  line = p.line;
  column = p.column;
}

-- the tokens of the bytes that stand at a place, the first of which has this number: a gap, a
-- token, and so on, up to the end or to a Bad token, which is one byte where nothing begins
abbrev pub AreTokens : List Token → ℕ → Position → List ℕ → Type 0
AreTokens [] number p bytes = IsGap bytes []
AreTokens (token ∷ tokens) number p bytes =
    (gap head rest : List ℕ) × (bytes ≡ gap ++ (head ++ rest)) × IsGap gap (head ++ rest) ×
    (token ≡ token_at token.lexeme number (past gap p) (length head))
    × ((IsLexeme token.lexeme head rest × AreTokens tokens (number + 1) (past head (past gap p))
    rest) ⊎ ((token.lexeme ≡ lexeme.Bad) × (tokens ≡ []) × (length head ≡ 1) ×
    BeginsNothing (head ++ rest)))

-- the tokens count up from a number, each stands where the one before ends or later, the first at a
-- byte or later, none is empty, and only the last may be Bad
abbrev pub AreSpans : ℕ → ℕ → List Token → Type 0
AreSpans number at [] = Unit {0}
AreSpans number at (token ∷ tokens) =
    (token.number ≡ number) × (at ≤ token.start) × (token.start < token.end) ×
    (token.lexeme ≡ lexeme.Bad → tokens ≡ []) × AreSpans (number + 1) token.end tokens

-- a script's tokens, and the place of its end
pub record Lexing : Type 0 where
  pub tokens : List Token
  pub end_line : ℕ
  pub end_column : ℕ

-- these are the tokens of the bytes
abbrev pub IsTokens : List ℕ → Lexing → Type 0
IsTokens bytes lexing =
    AreTokens lexing.tokens 0 origin bytes × (lexing.end_line ≡ (past bytes origin).line) ×
    (lexing.end_column ≡ (past bytes origin).column)

-- Worked rows: the limits, what stands at the head of some bytes, and which tokens open a
-- construct.
use Rattle.std.specs.Prelude.{◌≡◌, ◌-◌, ◌^◌, true, false, List, [], ◌∷◌, pos, codes, refl}
use Rattle.sql_texts.specs.Names.{most_characters}
use Rattle.sql_lex.specs.declared.sign.Sign.TheVariants as sign
use Rattle.sql_lex.specs.declared.step.Step.TheVariants as step
use Rattle.sql_lex.specs.declared.token.Lexeme.{Lexeme}
use Rattle.sql_lex.specs.declared.token.Lexeme.TheVariants as lexeme
use Rattle.sql_lex.specs.declared.token.Token.{Token}
use Rattle.sql_lex.specs.declared.word.Word.TheVariants as word
use Rattle.sql_lex.specs.Openings.{opens_at}
use Rattle.sql_lex.specs.Places.{origin, past}
use Rattle.sql_lex.specs.Scan.{step_of}
use Rattle.sql_lex.specs.Tokens.{doubled, most_number, most_text, token_at}

-- ---- limits

-- the limit of a name
pub of_names : most_characters ≡ 128
of_names = refl

-- the limit of a text
pub of_texts : most_text ≡ 4096
of_texts = refl

-- the limit of a number
pub of_numbers : most_number ≡ 2 ^ 63 - 1
of_numbers = refl

-- ---- tokens, and what stands between them

-- the longer sign is taken
pub longest_sign : step_of (codes "<=1") ≡ step.Token (lexeme.Sign sign.LessThanOrEquals) 2
longest_sign = refl

-- a name ends at the first character that no name has, and is folded
pub folded_name : step_of (codes "a1_+") ≡ step.Token (lexeme.Name (codes "A1_")) 3
folded_name = refl

-- a reserved word, in any case of letters
pub reserved_word : step_of (codes "sElect*") ≡ step.Token (lexeme.Word word.Select) 6
reserved_word = refl

-- zeros in front say nothing
pub number : step_of (codes "0907)") ≡ step.Token (lexeme.Number (pos 907)) 4
number = refl

-- a letter right after a number begins nothing
pub number_before_letter : step_of (codes "1a") ≡ step.Bad
number_before_letter = refl

-- a quote within a text is written twice
pub quoted : doubled (codes "it's") ≡ codes "it''s"
quoted = refl

-- a comment ends at the first `*/`
pub comment : step_of (codes "/**/a") ≡ step.Gap 4
comment = refl

-- the slash of `/*` is not that of `*/`
pub comment_without_end : step_of (codes "/*/") ≡ step.Bad
comment_without_end = refl

-- ---- places

-- after a LF and a space: column 2 of line 2
pub second_line : past (10 ∷ 32 ∷ []) origin ≡ record { at = 2; line = 2; column = 2 }
second_line = refl

-- ---- openings

-- these lexemes as tokens without bytes between them
abbrev of_lexemes : List Lexeme → List Token
of_lexemes [] = []
of_lexemes (l ∷ ls) = token_at l 0 origin 1 ∷ of_lexemes ls

-- IF NULL END IF
abbrev if_null : List Token
if_null = of_lexemes (lexeme.Word word.If ∷ lexeme.Word word.Null ∷ lexeme.Word word.End ∷
    lexeme.Word word.If ∷ [])

-- IF opens a construct
pub opens_at_if : opens_at if_null 0 ≡ true
opens_at_if = refl

-- right after END it does not
pub not_after_end : opens_at if_null 3 ≡ false
not_after_end = refl

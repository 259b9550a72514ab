-- A token or a piece that stands at the head of some bytes is what is read there.
use Rattle.std.proofs.Common.{ℕ, ◌≡◌, ◌+◌, ◌<◌, ◌≤◌, true, false, not, ◌&&◌, List, [], ◌∷◌, ◌++◌}
use Rattle.std.proofs.Common.{length, take, drop, refl, sym, ap, ◌∙◌, arith, append_assoc, nat_eq}
use Rattle.std.proofs.Common.{nat_le, length-append, pos}
use Rattle.std.proofs.lemmas.Bool.{and_parts, or_parts, le-leb, leb-true, cond-true, cond-false}
use Rattle.std.specs.Prelude.{Option, Some, None, if◌then◌else◌}
use Rattle.std.proofs.Common.{inl, inr}
use Rattle.std.specs.List.{list_all}
use Rattle.std.specs.Str.{chars, encode_utf8_all, all_scalars}
use Rattle.std.proofs.lemmas.List.{take_at, drop_at}
use Rattle.std.proofs.lemmas.Bool.Decides.{nat_tests}
use Rattle.std.proofs.lemmas.Str.{chars-encodes, is_utf8-from_IsUtf8}
use Rattle.sql_texts.specs.Names.{is_letter, is_digit, is_name_part, begins_by, folded}
use Rattle.sql_texts.specs.Names.{most_characters, IsWordLike}
use Rattle.sql_lex.specs.declared.token.Lexeme.{Lexeme}
use Rattle.sql_lex.specs.declared.token.Lexeme.TheVariants as lexeme
use Rattle.sql_lex.specs.declared.step.Step.{Step}
use Rattle.sql_lex.specs.declared.step.Step.TheVariants as step
use Rattle.sql_lex.specs.declared.sign.Sign.{Sign}
use Rattle.sql_lex.specs.declared.sign.Sign.TheVariants as sign
use Rattle.sql_lex.specs.Signs.{sign_spelling, sign_goes_on}
use Rattle.sql_lex.specs.Tokens.{is_blank, is_quote, is_line_feed, digits_value, doubled}
use Rattle.sql_lex.specs.Tokens.{most_number, most_text, has_close, IsLexeme, IsPiece}
use Rattle.sql_lex.specs.Scan.{step_of, word_step, number_step, number_of, number_token, text_token}
use Rattle.sql_lex.specs.Scan.{quoted_token, text_of, unquoted, lexeme_of, reserved, gap_of, plus}
use Rattle.sql_lex.specs.Scan.{close_end}
use Rattle.sql_lex.proofs.Words.{reserved-of, reserved-none}
use Rattle.sql_lex.proofs.Spans.{prefix_len-whole, begins_by-weaker}
use Rattle.sql_lex.proofs.Texts.{unquoted-doubled, close_end-first}

-- kinds of bytes exclude each other
letter_no_blank : (b : ℕ) → is_letter b ≡ true → is_blank b ≡ false
letter_no_blank b h = grind (arith, nat_tests)

digit_no_blank : (b : ℕ) → is_digit b ≡ true → is_blank b ≡ false
digit_no_blank b h = grind (arith, nat_tests)

digit_no_letter : (b : ℕ) → is_digit b ≡ true → is_letter b ≡ false
digit_no_letter b h = grind (arith, nat_tests)

pub digit_in_name : (b : ℕ) → is_digit b ≡ true → is_name_part b ≡ true
digit_in_name b h = grind (arith, nat_tests)

at_letter : (b : ℕ) (bs : List ℕ) → is_letter b ≡ true → step_of (b ∷ bs) ≡ word_step (b ∷ bs)
at_letter b bs h = cond-false (is_blank b) _ _ (letter_no_blank b h) ∙ cond-true (is_letter b) _ _ h

at_digit : (b : ℕ) (bs : List ℕ) → is_digit b ≡ true → step_of (b ∷ bs) ≡ number_step (b ∷ bs)
at_digit b bs h = cond-false (is_blank b) _ _ (digit_no_blank b h) ∙
    cond-false (is_letter b) _ _ (digit_no_letter b h) ∙ cond-true (is_digit b) _ _ h

-- words
word_at : (bytes rest : List ℕ) → list_all is_name_part bytes ≡ true →
    length bytes ≤ most_characters → begins_by is_name_part rest ≡ false →
    word_step (bytes ++ rest) ≡ step.Token (lexeme_of (reserved (folded bytes)) (folded bytes))
    (length bytes)
word_at bytes rest parts short k =
    let s : List ℕ = bytes ++ rest in
    let Over : ℕ → Step = λ n. if nat_le n most_characters then step.Token
    (lexeme_of (reserved (folded (take n s))) (folded (take n s))) n else step.Bad in
    let Here : List ℕ → Step = λ word. step.Token (lexeme_of (reserved (folded word)) (folded word))
    (length bytes) in
    ap Over (prefix_len-whole is_name_part bytes rest parts k) ∙
    cond-true _ _ _ (le-leb (length bytes) most_characters short) ∙
    ap Here (take_at bytes rest (length bytes) refl)

pub word_is_read : (bytes rest : List ℕ) → IsWordLike bytes → begins_by is_name_part rest ≡ false →
    step_of (bytes ++ rest) ≡ step.Token (lexeme_of (reserved (folded bytes)) (folded bytes))
    (length bytes)
word_is_read [] rest h k = cc
word_is_read (b ∷ bs) rest h k =
    let letter =
    (and_parts (is_letter b) (list_all is_name_part (b ∷ bs) && nat_le (length (b ∷ bs))
    most_characters) h).0 in
    let others =
    (and_parts (is_letter b) (list_all is_name_part (b ∷ bs) && nat_le (length (b ∷ bs))
    most_characters) h).1 in
    let parts = (and_parts (list_all is_name_part (b ∷ bs))
    (nat_le (length (b ∷ bs)) most_characters) others).0 in
    let short = (and_parts (list_all is_name_part (b ∷ bs))
    (nat_le (length (b ∷ bs)) most_characters) others).1 in
    at_letter b (bs ++ rest) letter ∙ word_at (b ∷ bs) rest parts
    (leb-true (length (b ∷ bs)) most_characters short) k

-- numbers
number_of-small : (digits : List ℕ) → digits_value digits ≤ most_number →
    number_of digits ≡ Some (pos (digits_value digits))
number_of-small digits h = let small = le-leb (digits_value digits) most_number h in rw small refl

number_at : (bytes rest : List ℕ) → list_all is_digit bytes ≡ true →
    digits_value bytes ≤ most_number → begins_by is_name_part rest ≡ false →
    number_step (bytes ++ rest) ≡ step.Token (lexeme.Number (pos (digits_value bytes)))
    (length bytes)
number_at bytes rest digits small k =
    let s : List ℕ = bytes ++ rest in
    let Over : ℕ → Step = λ n. if begins_by is_name_part (drop n s) then step.Bad else number_token
    (number_of (take n s)) n in
    let no_digit = begins_by-weaker is_name_part is_digit digit_in_name rest k in
    let unfollowed : begins_by is_name_part (drop (length bytes) s) ≡ false =
    ap (begins_by is_name_part) (drop_at bytes rest (length bytes) refl) ∙ k in
    ap Over (prefix_len-whole is_digit bytes rest digits no_digit) ∙ cond-false _ _ _ unfollowed ∙
    ap (λ (word : List ℕ). number_token (number_of word) (length bytes))
    (take_at bytes rest (length bytes) refl) ∙
    ap (λ o. number_token o (length bytes)) (number_of-small bytes small)

number_is_read : (bytes rest : List ℕ) → 0 < length bytes → list_all is_digit bytes ≡ true →
    digits_value bytes ≤ most_number → begins_by is_name_part rest ≡ false →
    step_of (bytes ++ rest) ≡ step.Token (lexeme.Number (pos (digits_value bytes))) (length bytes)
number_is_read [] rest h digits small k = absurd (omega arith)
number_is_read (b ∷ bs) rest h digits small k =
    at_digit b (bs ++ rest) (and_parts (is_digit b) (list_all is_digit bs) digits).0 ∙
    number_at (b ∷ bs) rest digits small k

-- texts
text_of-encoded : (text : List ℕ) → all_scalars text ≡ true → length text ≤ most_text →
    text_of (encode_utf8_all text) ≡ Some text
text_of-encoded text scalar short =
    let same = chars-encodes text scalar in
    let utf8 = is_utf8-from_IsUtf8 (encode_utf8_all text) (text, (scalar, refl)) in
    let small : nat_le (length text) most_text ≡ true = le-leb (length text) most_text short in
    let Within : List ℕ → Option (List ℕ) = λ cs. if nat_le (length cs) most_text then Some cs else
    None in
    ap (λ t. if t then Within (chars (encode_utf8_all text)) else None) utf8 ∙ ap Within same ∙
    ap (λ t. if t then Some text else None) small

text_is_read : (text rest : List ℕ) → all_scalars text ≡ true → length text ≤ most_text →
    begins_by is_quote rest ≡ false → step_of
    ((39 ∷ (doubled (encode_utf8_all text) ++ 39 ∷ [])) ++ rest) ≡ step.Token (lexeme.Text text)
    (length (39 ∷ (doubled (encode_utf8_all text) ++ 39 ∷ [])))
text_is_read text rest scalar short k =
    let raw = encode_utf8_all text in
    let body = append_assoc (doubled raw) (39 ∷ []) rest in
    let width : 1 + (length (doubled raw) + 1) ≡ length (39 ∷ (doubled raw ++ 39 ∷ [])) =
    omega (arith, length-append (doubled raw) (39 ∷ [])) in
    ap (λ (l : List ℕ). quoted_token (unquoted l)) body ∙
    ap quoted_token (unquoted-doubled raw rest k) ∙
    ap (λ o. text_token o (1 + (length (doubled raw) + 1))) (text_of-encoded text scalar short)
    ∙ ap (λ (n : ℕ). step.Token (lexeme.Text text) n) width

-- signs
sign_is_read : (g : Sign) (rest : List ℕ) → begins_by (sign_goes_on g) rest ≡ false →
    step_of (sign_spelling g ++ rest) ≡ step.Token (lexeme.Sign g) (length (sign_spelling g))
sign_is_read sign.LessThan (c ∷ cs) h = let e = (or_parts (nat_eq c 61) (nat_eq c 62) h).0 in
    let f = (or_parts (nat_eq c 61) (nat_eq c 62) h).1 in rw (e, f) refl
sign_is_read sign.GreaterThan (c ∷ cs) h = rw h refl
sign_is_read sign.Minus (c ∷ cs) h = rw h refl
sign_is_read sign.Solidus (c ∷ cs) h = rw h refl
sign_is_read sign.LeftParen [] h = refl
sign_is_read sign.LeftParen (c ∷ cs) h = refl
sign_is_read sign.RightParen [] h = refl
sign_is_read sign.RightParen (c ∷ cs) h = refl
sign_is_read sign.Comma [] h = refl
sign_is_read sign.Comma (c ∷ cs) h = refl
sign_is_read sign.Semicolon [] h = refl
sign_is_read sign.Semicolon (c ∷ cs) h = refl
sign_is_read sign.Colon [] h = refl
sign_is_read sign.Colon (c ∷ cs) h = refl
sign_is_read sign.Period [] h = refl
sign_is_read sign.Period (c ∷ cs) h = refl
sign_is_read sign.QuestionMark [] h = refl
sign_is_read sign.QuestionMark (c ∷ cs) h = refl
sign_is_read sign.Equals [] h = refl
sign_is_read sign.Equals (c ∷ cs) h = refl
sign_is_read sign.LessThan [] h = refl
sign_is_read sign.GreaterThan [] h = refl
sign_is_read sign.Plus [] h = refl
sign_is_read sign.Plus (c ∷ cs) h = refl
sign_is_read sign.Minus [] h = refl
sign_is_read sign.Asterisk [] h = refl
sign_is_read sign.Asterisk (c ∷ cs) h = refl
sign_is_read sign.Solidus [] h = refl
sign_is_read sign.NotEquals rest h = refl
sign_is_read sign.LessThanOrEquals rest h = refl
sign_is_read sign.GreaterThanOrEquals rest h = refl
sign_is_read sign.Concatenation rest h = refl

-- what stands between tokens
blank_is_read : (b : ℕ) (rest : List ℕ) → is_blank b ≡ true → step_of (b ∷ rest) ≡ step.Gap 1
blank_is_read b rest h = rw h refl

line_is_read : (body rest : List ℕ) → list_all (λ b. not (is_line_feed b)) body ≡ true →
    begins_by (λ b. not (is_line_feed b)) rest ≡ false →
    step_of ((45 ∷ (45 ∷ body)) ++ rest) ≡ step.Gap (length (45 ∷ (45 ∷ body)))
line_is_read body rest h k = ap (λ (n : ℕ). step.Gap n)
    (prefix_len-whole (λ b. not (is_line_feed b)) (45 ∷ (45 ∷ body)) rest h k)

block_is_read : (body rest : List ℕ) → has_close (body ++ 42 ∷ []) ≡ false →
    step_of ((47 ∷ (42 ∷ (body ++ 42 ∷ (47 ∷ [])))) ++ rest) ≡ step.Gap
    (length (47 ∷ (42 ∷ (body ++ 42 ∷ (47 ∷ [])))))
block_is_read body rest h =
    let width : 2 + (length body + 2) ≡ length (47 ∷ (42 ∷ (body ++ 42 ∷ (47 ∷ [])))) =
    omega (arith, length-append body (42 ∷ (47 ∷ []))) in
    ap (λ (l : List ℕ). gap_of (plus 2 (close_end l))) (append_assoc body (42 ∷ (47 ∷ [])) rest) ∙
    ap (λ o. gap_of (plus 2 o)) (close_end-first body rest h) ∙ ap (λ (n : ℕ). step.Gap n) width

abbrev Read : Step → List ℕ → List ℕ → Type 0
Read s bytes rest = step_of (bytes ++ rest) ≡ s

pub piece_is_read : (bytes rest : List ℕ) → IsPiece bytes rest →
    step_of (bytes ++ rest) ≡ step.Gap (length bytes)
piece_is_read bytes rest (inl h) = ap (λ (l : List ℕ). step_of (l ++ rest)) h.2 ∙
    blank_is_read h.0 rest h.1 ∙ sym (ap (λ (l : List ℕ). step.Gap (length l)) h.2)
piece_is_read bytes rest (inr (inl h)) = ap (λ (l : List ℕ). step_of (l ++ rest)) h.3 ∙
    line_is_read h.0 rest h.1 h.2 ∙ sym (ap (λ (l : List ℕ). step.Gap (length l)) h.3)
piece_is_read bytes rest (inr (inr h)) = ap (λ (l : List ℕ). step_of (l ++ rest)) h.2 ∙
    block_is_read h.0 rest h.1 ∙ sym (ap (λ (l : List ℕ). step.Gap (length l)) h.2)

pub lexeme_is_read : (l : Lexeme) (bytes rest : List ℕ) → IsLexeme l bytes rest →
    step_of (bytes ++ rest) ≡ step.Token l (length bytes)
lexeme_is_read (lexeme.Name name) bytes rest h =
    let none = reserved-none (folded bytes) h.0.2 in
    word_is_read bytes rest h.0.0 h.1 ∙ ap (λ o. step.Token (lexeme_of o (folded bytes))
    (length bytes)) none ∙ sym (ap (λ (n : List ℕ). step.Token (lexeme.Name n) (length bytes))
    h.0.1)
lexeme_is_read (lexeme.Word word) bytes rest h =
    let some = reserved-of (folded bytes) word h.0.1 in
    word_is_read bytes rest h.0.0 h.1 ∙ ap (λ o. step.Token (lexeme_of o (folded bytes))
    (length bytes)) some
lexeme_is_read (lexeme.Number n) bytes rest h = number_is_read bytes rest h.0.0 h.0.1 h.0.2 h.1 ∙
    sym (ap (λ m. step.Token (lexeme.Number m) (length bytes)) h.0.3)
lexeme_is_read (lexeme.Text text) bytes rest h =
    ap (λ (l : List ℕ). step_of (l ++ rest)) h.0.2 ∙ text_is_read text rest h.0.0 h.0.1 h.1 ∙
    sym (ap (λ (l : List ℕ). step.Token (lexeme.Text text) (length l)) h.0.2)
lexeme_is_read (lexeme.Sign sign) bytes rest h =
    ap (λ (l : List ℕ). step_of (l ++ rest)) h.0 ∙ sign_is_read sign rest h.1 ∙
    sym (ap (λ (l : List ℕ). step.Token (lexeme.Sign sign) (length l)) h.0)
lexeme_is_read lexeme.Bad bytes rest h = absurd h.0

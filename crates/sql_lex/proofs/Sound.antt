-- What is read at the head of some bytes stands there.
use Rattle.std.proofs.Common.{ℕ, ◌≡◌, ◌+◌, ◌<◌, Bool, true, false, not, ◌&&◌, List, [], ◌∷◌, ◌++◌}
use Rattle.std.proofs.Common.{length, take, drop, refl, sym, ap, ◌∙◌, subst, arith, append_assoc}
use Rattle.std.proofs.Common.{nat_eq, nat_le, length-append, inl, inr, eqb-true}
use Rattle.std.proofs.lemmas.Bool.{and_parts, and_from, and_right, or_from, leb-true}
use Rattle.std.specs.Prelude.{Option, Some, None, if◌then◌else◌}
use Rattle.std.specs.List.{list_all, prefix_len}
use Rattle.std.specs.Str.{is_utf8, chars, encode_utf8_all, all_scalars}
use Rattle.std.proofs.lemmas.List.{take-append-drop}
use Rattle.std.proofs.lemmas.Bool.Decides.{nat_tests}
use Rattle.std.proofs.lemmas.Str.{chars-encodes, IsUtf8-from_is_utf8}
use Rattle.sql_texts.specs.Names.{is_letter, is_digit, is_name_part, begins_by, folded}
use Rattle.sql_texts.specs.Names.{most_characters, IsWordLike}
use Rattle.sql_lex.specs.declared.token.Lexeme.{Lexeme}
use Rattle.sql_lex.specs.declared.token.Lexeme.TheVariants as lexeme
use Rattle.sql_lex.specs.declared.step.Step.{Step}
use Rattle.sql_lex.specs.declared.step.Step.TheVariants as step
use Rattle.sql_lex.specs.declared.sign.Sign.{Sign}
use Rattle.sql_lex.specs.declared.sign.Sign.TheVariants as sign
use Rattle.sql_lex.specs.Signs.{sign_spelling, sign_goes_on}
use Rattle.sql_lex.specs.Tokens.{is_blank, is_quote, is_line_feed, digits_value, doubled}
use Rattle.sql_lex.specs.Tokens.{most_number, most_text, IsLexeme, IsPiece}
use Rattle.sql_lex.specs.Scan.{step_of, word_step, number_step, number_token, text_step, text_token}
use Rattle.sql_lex.specs.Scan.{quoted_token, text_of, unquoted, lexeme_of, reserved, begins_with}
use Rattle.sql_lex.specs.Scan.{block_step, gap_of, plus, close_end, line_step, sign_step, long_sign}
use Rattle.sql_lex.specs.Scan.{short_sign, sign_token}
use Rattle.sql_lex.proofs.Words.{not_reserved, spelling-reserved}
use Rattle.sql_lex.proofs.Spans.{list_all-prefix, begins_by-prefix, length-prefix, prefix_len-pos}
use Rattle.sql_lex.proofs.Spans.{begins_by-front}
use Rattle.sql_lex.proofs.Texts.{IsQuoted, IsQuoted-unquoted, IsClosed-close_end}

-- what a step says of the bytes
pub record HasPiece (s : List ℕ) (width : ℕ) : Type 0 where
  pub bytes : List ℕ
  pub rest : List ℕ
  pub parts : s ≡ bytes ++ rest
  pub width_is : width ≡ length bytes
  pub piece : IsPiece bytes rest

pub record HasLexeme (l : Lexeme) (s : List ℕ) (width : ℕ) : Type 0 where
  pub bytes : List ℕ
  pub rest : List ℕ
  pub parts : s ≡ bytes ++ rest
  pub width_is : width ≡ length bytes
  pub lexeme : IsLexeme l bytes rest

abbrev pub Stands : Step → List ℕ → Type 0
Stands (step.Gap width) s = HasPiece s width
Stands (step.Token l width) s = HasLexeme l s width
Stands step.Bad s = Unit {0}

choose : {A : Type 0} (P : A → Type 0) (t : Bool) (x y : A) → (t ≡ true → P x) → (t ≡ false → P y) →
    P (if t then x else y)
choose P true x y f g = f refl
choose P false x y f g = g refl

-- words
letter_in_name : (b : ℕ) → is_letter b ≡ true → is_name_part b ≡ true
letter_in_name b h = grind (arith, nat_tests)

-- the front of name characters is like a word
pub front_is_word : (b : ℕ) (bs : List ℕ) → is_letter b ≡ true →
    nat_le (prefix_len is_name_part (b ∷ bs)) most_characters ≡ true →
    IsWordLike (take (prefix_len is_name_part (b ∷ bs)) (b ∷ bs))
front_is_word b bs letter short =
    let s : List ℕ = b ∷ bs in
    let n : ℕ = prefix_len is_name_part s in
    let begins = begins_by-front is_letter b bs n
    (prefix_len-pos is_name_part b bs (letter_in_name b letter)) ∙ letter in
    let small : nat_le (length (take n s)) most_characters ≡ true =
    ap (λ k. nat_le k most_characters) (length-prefix is_name_part s) ∙ short in
    and_from (begins_by is_letter (take n s))
    (list_all is_name_part (take n s) && nat_le (length (take n s)) most_characters) begins
    (and_from (list_all is_name_part (take n s)) (nat_le (length (take n s)) most_characters)
    (list_all-prefix is_name_part s) small)

word_stands : (b : ℕ) (bs : List ℕ) → is_letter b ≡ true → Stands (word_step (b ∷ bs)) (b ∷ bs)
word_stands b bs letter =
    let s : List ℕ = b ∷ bs in
    let n : ℕ = prefix_len is_name_part s in
    let capitals : List ℕ = folded (take n s) in
    choose (λ x. Stands x s) (nat_le n most_characters) _ _
    (λ short.
    let like = front_is_word b bs letter short in
    let parts = sym (take-append-drop n s) in
    let width = sym (length-prefix is_name_part s) in
    let ends = begins_by-prefix is_name_part s in
    elim (reserved capitals) as (λ o. reserved capitals ≡ o →
    Stands (step.Token (lexeme_of o capitals) n) s) [
      | None ↦ λ e. record {
        bytes = take n s;
        rest = drop n s;
        parts = parts;
        width_is = width;
        lexeme = ((like, refl, not_reserved capitals e), ends);
      }
      | Some w ↦ λ e. record {
        bytes = take n s;
        rest = drop n s;
        parts = parts;
        width_is = width;
        lexeme = ((like, spelling-reserved capitals w e), ends);
      }
    ] refl)
    (λ _. tt)

-- numbers
number_stands : (b : ℕ) (bs : List ℕ) → is_digit b ≡ true → Stands (number_step (b ∷ bs)) (b ∷ bs)
number_stands b bs digit =
    let s : List ℕ = b ∷ bs in
    let n : ℕ = prefix_len is_digit s in
    choose (λ x. Stands x s) (begins_by is_name_part (drop n s)) _ _ (λ _. tt)
    (λ ends.
    choose (λ o. Stands (number_token o n) s) (nat_le (digits_value (take n s)) most_number) _ _
    (λ small.
    let long : 0 < length (take n s) = omega (
      arith,
      length-prefix is_digit s,
      prefix_len-pos
          is_digit b bs digit,
    ) in
    record {
      bytes = take n s;
      rest = drop n s;
      parts = sym (take-append-drop n s);
      width_is = sym (length-prefix is_digit s);
      lexeme = (
        (
          long,
          list_all-prefix is_digit s,
          leb-true (digits_value (take n s)) most_number
              small,
          refl,
        ),
        ends,
      );
    })
    (λ _. tt))

-- texts
text_of_stands : (s raw : List ℕ) (width : ℕ) → IsQuoted s raw width →
    Stands (text_token (text_of raw) (1 + width)) (39 ∷ s)
text_of_stands s raw width q =
    let P : Option (List ℕ) → Type 0 = λ o. Stands (text_token o (1 + width)) (39 ∷ s) in
    choose P (is_utf8 raw) _ _
    (λ test. choose P (nat_le (length (chars raw)) most_text) _ _ (λ small.
    let utf8 = IsUtf8-from_is_utf8 raw test in
    let short = leb-true (length (chars raw)) most_text small in
    let same : chars raw ≡ utf8.0 = ap chars (sym utf8.1.1) ∙ chars-encodes utf8.0 utf8.1.0 in
    let scalar : all_scalars (chars raw) ≡ true = ap all_scalars same ∙ utf8.1.0 in
    let back : encode_utf8_all (chars raw) ≡ raw = ap encode_utf8_all same ∙ utf8.1.1 in
    record {
      bytes = 39 ∷ (doubled raw ++ 39 ∷ []);
      rest = q.rest;
      parts = ap (λ (l : List ℕ). 39 ∷ l) (q.parts ∙
          sym (append_assoc (doubled raw) (39 ∷ []) q.rest));
      width_is = omega (arith, q.width_is, length-append (doubled raw) (39 ∷ []));
      lexeme = (
        (scalar, short, ap (λ (l : List ℕ). 39 ∷ (doubled l ++ 39 ∷ [])) (sym back)),
        q.ends,
      );
    })
    (λ _. tt))
    (λ _. tt)

text_stands : (s : List ℕ) → Stands (text_step (39 ∷ s)) (39 ∷ s)
text_stands s =
    elim (unquoted s) as (λ o. unquoted s ≡ o → Stands (quoted_token o) (39 ∷ s)) [
      | None ↦ λ _. tt
      | Some r ↦ λ e. text_of_stands s r.0 r.1 (IsQuoted-unquoted s r.0 r.1 e)
    ] refl

-- comments
line_stands : (s : List ℕ) → Stands (line_step (45 ∷ (45 ∷ s))) (45 ∷ (45 ∷ s))
line_stands s =
    let inner : ℕ → Bool = λ b. not (is_line_feed b) in
    let n : ℕ = prefix_len inner s in
    record {
      bytes = 45 ∷ (45 ∷ take n s);
      rest = drop n s;
      parts = ap (λ (l : List ℕ). 45 ∷ (45 ∷ l)) (sym (take-append-drop n s));
      width_is = omega (arith, length-prefix inner s);
      piece = inr (inl (take n s, list_all-prefix inner s, begins_by-prefix inner s, refl));
    }

block_stands : (s : List ℕ) → Stands (block_step (47 ∷ (42 ∷ s))) (47 ∷ (42 ∷ s))
block_stands s =
    elim (close_end s) as (λ o. close_end s ≡ o → Stands (gap_of (plus 2 o)) (47 ∷ (42 ∷ s))) [
      | None ↦ λ _. tt
      | Some k ↦ λ e.
          let q = IsClosed-close_end s k e in
          record {
            bytes = 47 ∷ (42 ∷ (q.body ++ 42 ∷ (47 ∷ [])));
            rest = q.rest;
            parts = ap (λ (l : List ℕ). 47 ∷ (42 ∷ l))
                (q.parts ∙ sym (append_assoc q.body (42 ∷ (47 ∷ [])) q.rest));
            width_is = omega (arith, q.width_is, length-append q.body (42 ∷ (47 ∷ [])));
            piece = inr (inr (q.body, q.first, refl));
          }
    ] refl

-- two bytes at the head
at_pair : (P : List ℕ → Type 0) (b c : ℕ) (s : List ℕ) → begins_with b c s ≡ true →
    ((cs : List ℕ) → P (b ∷ (c ∷ cs))) → P s
at_pair P b c [] h f = cc
at_pair P b c (x ∷ []) h f = cc
at_pair P b c (x ∷ (y ∷ ys)) h f =
    let e = eqb-true x b (and_parts (nat_eq x b) (nat_eq y c) h).0 in
    let g = eqb-true y c (and_parts (nat_eq x b) (nat_eq y c) h).1 in
    subst P (sym (λ i. e i ∷ (g i ∷ ys))) (f ys)

-- signs
never : (rest : List ℕ) → begins_by (λ (b : ℕ). false) rest ≡ false
never [] = refl
never (b ∷ bs) = refl

one_sign : (g : Sign) (code b : ℕ) (rest : List ℕ) → code ∷ [] ≡ sign_spelling g →
    nat_eq b code ≡ true → begins_by (sign_goes_on g) rest ≡ false →
    Stands (step.Token (lexeme.Sign g) 1) (b ∷ rest)
one_sign g code b rest spelled e ends =
    record {
      bytes = code ∷ [];
      rest = rest;
      parts = ap (λ (n : ℕ). n ∷ rest) (eqb-true b code e);
      width_is = refl;
      lexeme = (spelled, ends);
    }

two_sign : (g : Sign) (code second b c : ℕ) (rest : List ℕ) →
    code ∷ (second ∷ []) ≡ sign_spelling g → (nat_eq b code && nat_eq c second) ≡ true →
    begins_by (sign_goes_on g) rest ≡ false → Stands (step.Token (lexeme.Sign g) 2) (b ∷ (c ∷ rest))
two_sign g code second b c rest spelled e ends =
    let e1 = eqb-true b code (and_parts (nat_eq b code) (nat_eq c second) e).0 in
    let e2 = eqb-true c second (and_parts (nat_eq b code) (nat_eq c second) e).1 in
    record {
      bytes = code ∷ (second ∷ []);
      rest = rest;
      parts = λ i. e1 i ∷ (e2 i ∷ rest);
      width_is = refl;
      lexeme = (spelled, ends);
    }

short_stands : (b : ℕ) (rest : List ℕ) → (nat_eq b 60 ≡ true →
    begins_by (sign_goes_on sign.LessThan) rest ≡ false) →
    (nat_eq b 62 ≡ true → begins_by (sign_goes_on sign.GreaterThan) rest ≡ false) →
    (nat_eq b 45 ≡ true → begins_by (sign_goes_on sign.Minus) rest ≡ false) →
    (nat_eq b 47 ≡ true → begins_by (sign_goes_on sign.Solidus) rest ≡ false) →
    Stands (sign_token (short_sign b) 1 step.Bad) (b ∷ rest)
short_stands b rest less greater minus solidus =
    let P : Option Sign → Type 0 = λ o. Stands (sign_token o 1 step.Bad) (b ∷ rest) in
    choose P (nat_eq b 40) _ _ (λ e. one_sign sign.LeftParen 40 b rest refl e (never rest))
    (λ _. choose P (nat_eq b 41) _ _ (λ e. one_sign sign.RightParen 41 b rest refl e (never rest))
    (λ _. choose P (nat_eq b 44) _ _ (λ e. one_sign sign.Comma 44 b rest refl e (never rest))
    (λ _. choose P (nat_eq b 59) _ _ (λ e. one_sign sign.Semicolon 59 b rest refl e (never rest))
    (λ _. choose P (nat_eq b 58) _ _ (λ e. one_sign sign.Colon 58 b rest refl e (never rest))
    (λ _. choose P (nat_eq b 46) _ _ (λ e. one_sign sign.Period 46 b rest refl e (never rest))
    (λ _. choose P (nat_eq b 63) _ _ (λ e. one_sign sign.QuestionMark 63 b rest refl e (never rest))
    (λ _. choose P (nat_eq b 61) _ _ (λ e. one_sign sign.Equals 61 b rest refl e (never rest))
    (λ _. choose P (nat_eq b 60) _ _ (λ e. one_sign sign.LessThan 60 b rest refl e (less e))
    (λ _. choose P (nat_eq b 62) _ _ (λ e. one_sign sign.GreaterThan 62 b rest refl e (greater e))
    (λ _. choose P (nat_eq b 43) _ _ (λ e. one_sign sign.Plus 43 b rest refl e (never rest))
    (λ _. choose P (nat_eq b 45) _ _ (λ e. one_sign sign.Minus 45 b rest refl e (minus e))
    (λ _. choose P (nat_eq b 42) _ _ (λ e. one_sign sign.Asterisk 42 b rest refl e (never rest))
    (λ _. choose P (nat_eq b 47) _ _ (λ e. one_sign sign.Solidus 47 b rest refl e (solidus e))
    (λ _. tt))))))))))))))

second_is_not : (t u : Bool) → (t && u) ≡ false → t ≡ true → u ≡ false
second_is_not true u h e = h
second_is_not false u h e = cc

no_second : (b : ℕ) → long_sign b 0 ≡ None
no_second b = let e = and_right (nat_eq b 60) false refl in
    let f = and_right (nat_eq b 62) false refl in let g = and_right (nat_eq b 124) false refl in
    simp (e, f, g)

sign_stands : (s : List ℕ) → begins_with 45 45 s ≡ false → begins_with 47 42 s ≡ false →
    Stands (sign_step s) s
sign_stands [] h k = tt
sign_stands (b ∷ []) h k =
    let P : Option Sign → Type 0 = λ o. Stands
    (sign_token o 2 (sign_token (short_sign b) 1 step.Bad)) (b ∷ []) in
    subst P (sym (no_second b)) (short_stands b [] (λ _. refl) (λ _. refl) (λ _. refl) (λ _. refl))
sign_stands (b ∷ (c ∷ cs)) h k =
    let P : Option Sign → Type 0 = λ o. Stands
    (sign_token o 2 (sign_token (short_sign b) 1 step.Bad)) (b ∷ (c ∷ cs)) in
    choose P (nat_eq b 60 && nat_eq c 62) _ _
    (λ e. two_sign sign.NotEquals 60 62 b c cs refl e (never cs))
    (λ no_ne. choose P (nat_eq b 60 && nat_eq c 61) _ _
    (λ e. two_sign sign.LessThanOrEquals 60 61 b c cs refl e (never cs))
    (λ no_le. choose P (nat_eq b 62 && nat_eq c 61) _ _
    (λ e. two_sign sign.GreaterThanOrEquals 62 61 b c cs refl e (never cs))
    (λ no_ge. choose P (nat_eq b 124 && nat_eq c 124) _ _
    (λ e. two_sign sign.Concatenation 124 124 b c cs refl e (never cs))
    (λ _.
    short_stands b (c ∷ cs)
    (λ e. or_from (nat_eq c 61) (nat_eq c 62) (second_is_not _ _ no_le e)
    (second_is_not _ _ no_ne e))
    (λ e. second_is_not _ _ no_ge e)
    (λ e. second_is_not _ _ h e)
    (λ e. second_is_not _ _ k e)))))

-- whatever is read stands there
pub step_stands : (s : List ℕ) → Stands (step_of s) s
step_stands [] = tt
step_stands (b ∷ bs) =
    let s : List ℕ = b ∷ bs in
    let P : Step → Type 0 = λ x. Stands x s in
    choose P (is_blank b) _ _ (λ blank. record {
      bytes = b ∷ [];
      rest = bs;
      parts = refl;
      width_is =
          refl;
      piece = inl (b, blank, refl);
    })
    (λ _. choose P (is_letter b) _ _ (λ letter. word_stands b bs letter)
    (λ _. choose P (is_digit b) _ _ (λ digit. number_stands b bs digit)
    (λ _. choose P (is_quote b) _ _ (λ quote.
    let Q : ℕ → Type 0 = λ n. Stands (text_step (n ∷ bs)) (n ∷ bs) in
    subst Q (sym (eqb-true b 39 quote)) (text_stands bs))
    (λ _. choose P (begins_with 45 45 s) _ _ (λ line. at_pair (λ l. Stands (line_step l) l) 45 45 s
    line line_stands)
    (λ no_line. choose P (begins_with 47 42 s) _ _
    (λ block. at_pair (λ l. Stands (block_step l) l) 47 42 s block block_stands)
    (λ no_block. sign_stands s no_line no_block))))))

-- What is read from a text is what it spells.
use Rattle.std.proofs.Common.{ℕ, ◌≡◌, ◌<◌, zero, suc, Bool, true, false, List, [], ◌∷◌, ◌++◌}
use Rattle.std.proofs.Common.{length, reverse, ℤ, Option, Some, None, if◌then◌else◌, ⊎_elim, refl}
use Rattle.std.proofs.Common.{sym, ap, subst, ◌∙◌, arith, rules, true≢false, length-append, IsAscii}
use Rattle.std.proofs.Common.{bytes_eq, nat_eq, eqb-true, codes}
use Rattle.std.specs.List.{list_all}
use Rattle.std.specs.Char.{to_ascii_lowercase}
use Rattle.std.specs.Str.{chars, str_to_ascii_lowercase, encode_utf8_all, IsNotAscii}
use Rattle.std.proofs.lemmas.Bool.{cases_Bool}
use Rattle.std.proofs.lemmas.Bool.Decides.{nat_tests}
use Rattle.std.proofs.lemmas.List.{map-append, reverse-append, length-reverse}
use Rattle.std.proofs.lemmas.List.Folds.{list_all-append}
use Rattle.std.proofs.lemmas.Str.{IsAscii-append, chars-IsAscii}
use Rattle.std.proofs.lemmas.Str.Ascii.{IsAscii-nil, IsAscii-cons, IsAscii-from_all}
use Rattle.std.proofs.lemmas.Str.Ascii.{encodes-IsAscii}
use Rattle.std.specs.Cmp.Lexicographic.{bytes_decides}
use Rattle.sql_texts.specs.Names.{is_digit}
use Rattle.sql_values.specs.Spellings.{spaces, are_digits, weighed, Sign, Bare, Plus, Minus}
use Rattle.sql_values.specs.Spellings.{sign_text, with_sign, sign_of, without_sign, trimmed}
use Rattle.sql_values.specs.Spellings.{integer_in, truth_in, SpellsInteger, SpellsTruth, TruthWord}
use Rattle.sql_values.specs.Spellings.{True, False, Unknown, letters, without_leading_spaces}
use Rattle.sql_values.proofs.Trimming.{lead, whole, trimmed-spaced, reverse-cons}

-- ---- numbers: what is read is spelled

abbrev SignedWhole : List ℕ → Type 0
SignedWhole w = w ≡ sign_text (sign_of w) ++ without_sign w

signed_bare : (c : ℕ) (s : List ℕ) → nat_eq c 43 ≡ false → nat_eq c 45 ≡ false → SignedWhole (c ∷ s)
signed_bare c s e f = rw (e, f) refl

signed_whole : (w : List ℕ) → SignedWhole w
signed_whole [] = refl
signed_whole (c ∷ s) = ⊎_elim
    (λ e. subst (λ (x : ℕ). SignedWhole (x ∷ s)) (sym (eqb-true c 43 e)) refl)
    (λ e. ⊎_elim (λ f. subst (λ (x : ℕ). SignedWhole (x ∷ s)) (sym (eqb-true c 45 f)) refl)
    (signed_bare c s e) (cases_Bool (nat_eq c 45)))
    (cases_Bool (nat_eq c 43))

of_digits : (w : List ℕ) (z : ℤ) (b : Bool) → are_digits (without_sign w) ≡ b →
    (if b then Some (with_sign (sign_of w) (weighed 0 (without_sign w))) else None) ≡ Some z
    → (are_digits (without_sign w) ≡ true) × (z ≡ with_sign (sign_of w)
    (weighed 0 (without_sign w)))
of_digits w z true e f = (e, cc)
of_digits w z false e f = cc

pub integer-read : (s : List ℕ) (z : ℤ) → integer_in (trimmed s) ≡ Some z → SpellsInteger s z
integer-read s z e =
    let w : List ℕ = trimmed s in
    let d = of_digits w z (are_digits (without_sign w)) refl e in
    record {
      before = lead s;
      after = lead (reverse (without_leading_spaces s));
      sign = sign_of w;
      digits = without_sign w;
      are_digits = d.0;
      written = whole s ∙ ap (λ (l : List ℕ). spaces (lead s) ++
          (l ++ spaces (lead (reverse (without_leading_spaces s))))) (signed_whole w);
      value = d.1;
    }

-- ---- numbers: what is spelled is read

digit_first : (ds : List ℕ) → are_digits ds ≡ true → (lead ds ≡ 0) × (0 < length ds) ×
    (sign_of ds ≡ Bare) × (without_sign ds ≡ ds)
digit_first [] h = absurd (true≢false (sym h))
digit_first (d ∷ ds) h = (
  grind (arith, nat_tests),
  search rules,
  grind (arith, nat_tests),
  grind
      (arith, nat_tests),
)

sign_back : (sign : Sign) (ds : List ℕ) → are_digits ds ≡ true →
    sign_of (sign_text sign ++ ds) ≡ sign
sign_back Bare ds h = (digit_first ds h).2
sign_back Plus ds h = refl
sign_back Minus ds h = refl

digits_back : (sign : Sign) (ds : List ℕ) → are_digits ds ≡ true →
    without_sign (sign_text sign ++ ds) ≡ ds
digits_back Bare ds h = (digit_first ds h).3
digits_back Plus ds h = refl
digits_back Minus ds h = refl

-- ---- what begins and ends without a space

all-reverse : (p : ℕ → Bool) (xs : List ℕ) → list_all p xs ≡ true → list_all p (reverse xs) ≡ true
all-reverse p [] h = refl
all-reverse p (x ∷ xs) h = ap (list_all p) (reverse-cons x xs) ∙
    list_all-append p (reverse xs) (x ∷ []) ∙ grind (arith, all-reverse p xs)

digits-reverse : (ds : List ℕ) → are_digits ds ≡ true → are_digits (reverse ds) ≡ true
digits-reverse [] h = absurd (true≢false (sym h))
digits-reverse (d ∷ ds) h = some (reverse (d ∷ ds)) (omega (arith, length-reverse (d ∷ ds)))
    (all-reverse is_digit (d ∷ ds) h)
  where
    some : (l : List ℕ) → 0 < length l → list_all is_digit l ≡ true → are_digits l ≡ true
    some [] k e = absurd (omega arith)
    some (x ∷ l) k e = e

lead-more : (ds x : List ℕ) → are_digits ds ≡ true → lead (ds ++ x) ≡ 0
lead-more [] x h = absurd (true≢false (sym h))
lead-more (d ∷ ds) x h = grind (arith, nat_tests)

lead-signed : (sign : Sign) (ds : List ℕ) → are_digits ds ≡ true → lead (sign_text sign ++ ds) ≡ 0
lead-signed Bare ds h = (digit_first ds h).0
lead-signed Plus ds h = refl
lead-signed Minus ds h = refl

lead-turned : (sign : Sign) (ds : List ℕ) → are_digits ds ≡ true →
    lead (reverse (sign_text sign ++ ds)) ≡ 0
lead-turned sign ds h = ap lead (reverse-append (sign_text sign) ds) ∙
    lead-more (reverse ds) (reverse (sign_text sign)) (digits-reverse ds h)

pub integer-spelled : (s : List ℕ) (z : ℤ) → SpellsInteger s z → integer_in (trimmed s) ≡ Some z
integer-spelled s z p =
    let w : List ℕ = sign_text p.sign ++ p.digits in
    let some : 0 < length w = omega (
      arith,
      length-append (sign_text p.sign) p.digits,
      (digit_first p.digits p.are_digits).1,
    ) in
    let cut : trimmed s ≡ w = ap trimmed p.written ∙
    trimmed-spaced p.before p.after w (lead-signed p.sign p.digits p.are_digits)
    (lead-turned p.sign p.digits p.are_digits) some in
    let known : are_digits (without_sign w) ≡ true =
    ap are_digits (digits_back p.sign p.digits p.are_digits) ∙ p.are_digits in
    ap integer_in cut ∙ ap (λ (b : Bool). if b then Some
    (with_sign (sign_of w) (weighed 0 (without_sign w))) else None) known
    ∙ ap Some (ap (λ (g : Sign). with_sign g (weighed 0 (without_sign w)))
    (sign_back p.sign p.digits p.are_digits)
    ∙ ap (λ (l : List ℕ). with_sign p.sign (weighed 0 l)) (digits_back p.sign p.digits p.are_digits)
    ∙ sym p.value)

-- ---- truth values

-- the word that letters in small ones make
abbrev word_of_small : List ℕ → Option TruthWord
word_of_small l =
    if bytes_eq l (str_to_ascii_lowercase (letters True)) then Some True else if bytes_eq l
    (str_to_ascii_lowercase (letters False)) then Some False
    else if bytes_eq l (str_to_ascii_lowercase (letters Unknown)) then Some Unknown else None

small_word : (l : List ℕ) (w : TruthWord) (a b c : Bool) →
    bytes_eq l (str_to_ascii_lowercase (letters True)) ≡ a →
    bytes_eq l (str_to_ascii_lowercase (letters False)) ≡ b
    → bytes_eq l (str_to_ascii_lowercase (letters Unknown)) ≡ c →
    (if a then Some True else if b then Some False else if c then Some Unknown else None) ≡
    Some w
    → l ≡ str_to_ascii_lowercase (letters w)
small_word l True true b c e f g h = (bytes_decides _ _).0 e
small_word l False true b c e f g h = cc
small_word l Unknown true b c e f g h = cc
small_word l True false true c e f g h = cc
small_word l False false true c e f g h = (bytes_decides _ _).0 f
small_word l Unknown false true c e f g h = cc
small_word l True false false true e f g h = cc
small_word l False false false true e f g h = cc
small_word l Unknown false false true e f g h = (bytes_decides _ _).0 g
small_word l w false false false e f g h = cc

pub truth-read : (s : List ℕ) (w : TruthWord) → truth_in (trimmed s) ≡ Some w → SpellsTruth s w
truth-read s w e = record {
  before = lead s;
  after = lead (reverse (without_leading_spaces s));
  word = trimmed s;
  in_any_case = small_word (str_to_ascii_lowercase (trimmed s)) w _ _ _ refl refl refl e;
  written = whole s;
}

small_back : (w : TruthWord) → word_of_small (str_to_ascii_lowercase (letters w)) ≡ Some w
small_back True = refl
small_back False = refl
small_back Unknown = refl

lead-small : (s l : List ℕ) (x : ℕ) → str_to_ascii_lowercase s ≡ x ∷ l → nat_eq x 32 ≡ false →
    (lead s ≡ 0) × (0 < length s)
lead-small [] l x e h = cc
lead-small (c ∷ s) l x e h = let same : to_ascii_lowercase c ≡ x = cc in
    (grind (arith, nat_tests), search rules)

reverse-small : (s : List ℕ) → str_to_ascii_lowercase (reverse s) ≡ reverse
    (str_to_ascii_lowercase s)
reverse-small [] = refl
reverse-small (c ∷ s) =
    ap str_to_ascii_lowercase (reverse-cons c s) ∙
    map-append to_ascii_lowercase (reverse s) (c ∷ [])
    ∙ ap (λ (l : List ℕ). l ++ to_ascii_lowercase c ∷ []) (reverse-small s) ∙
    sym (reverse-cons (to_ascii_lowercase c) (str_to_ascii_lowercase s))

letters_solid : (w : TruthWord) (s : List ℕ) → str_to_ascii_lowercase s ≡ str_to_ascii_lowercase
    (letters w) → (lead s ≡ 0) × (0 < length s) × (lead (reverse s) ≡ 0)
letters_solid True s e =
    let front = lead-small s (codes "rue") 116 e refl in (
      front.0,
      front.1,
      (lead-small (reverse s) (codes "urt") 101 (reverse-small s ∙ ap reverse e)
          refl).0,
    )
letters_solid False s e =
    let front = lead-small s (codes "alse") 102 e refl in (
      front.0,
      front.1,
      (lead-small (reverse s) (codes "slaf") 101 (reverse-small s ∙ ap reverse e)
          refl).0,
    )
letters_solid Unknown s e =
    let front = lead-small s (codes "nknown") 117 e refl in (
      front.0,
      front.1,
      (lead-small (reverse s) (codes "wonknu") 110 (reverse-small s ∙ ap reverse e)
          refl).0,
    )

pub truth-spelled : (s : List ℕ) (w : TruthWord) → SpellsTruth s w → truth_in (trimmed s) ≡ Some w
truth-spelled s w p =
    let solid = letters_solid w p.word p.in_any_case in
    ap truth_in (ap trimmed p.written ∙ trimmed-spaced p.before p.after p.word solid.0 solid.2
    solid.1) ∙ ap word_of_small p.in_any_case ∙ small_back w

-- ---- what spells is ASCII

spaces-IsAscii : (n : ℕ) → IsAscii (spaces n)
spaces-IsAscii zero = IsAscii-nil
spaces-IsAscii (suc n) = IsAscii-cons 32 (spaces n) (omega arith) (spaces-IsAscii n)

digits-IsAscii : (ds : List ℕ) → list_all is_digit ds ≡ true → IsAscii ds
digits-IsAscii [] h = IsAscii-nil
digits-IsAscii (d ∷ ds) h = IsAscii-cons d ds (grind (arith, nat_tests))
    (digits-IsAscii ds (grind (arith, nat_tests)))

sign-IsAscii : (sign : Sign) → IsAscii (sign_text sign)
sign-IsAscii Bare = IsAscii-nil
sign-IsAscii Plus = IsAscii-cons 43 [] (omega arith) IsAscii-nil
sign-IsAscii Minus = IsAscii-cons 45 [] (omega arith) IsAscii-nil

some_digits-all : (ds : List ℕ) → are_digits ds ≡ true → list_all is_digit ds ≡ true
some_digits-all [] h = refl
some_digits-all (d ∷ ds) h = h

integer-IsAscii : (s : List ℕ) (z : ℤ) → SpellsInteger s z → IsAscii s
integer-IsAscii s z p =
    subst IsAscii (sym p.written) (IsAscii-append (spaces p.before)
    (sign_text p.sign ++ p.digits ++ spaces p.after) (spaces-IsAscii p.before)
    (IsAscii-append (sign_text p.sign ++ p.digits) (spaces p.after)
    (IsAscii-append (sign_text p.sign) p.digits (sign-IsAscii p.sign)
    (digits-IsAscii p.digits (some_digits-all p.digits p.are_digits)))
    (spaces-IsAscii p.after)))

letters-IsAscii : (w : TruthWord) → IsAscii (str_to_ascii_lowercase (letters w))
letters-IsAscii True = IsAscii-from_all (str_to_ascii_lowercase (letters True)) (search rules)
letters-IsAscii False = IsAscii-from_all (str_to_ascii_lowercase (letters False)) (search rules)
letters-IsAscii Unknown = IsAscii-from_all (str_to_ascii_lowercase (letters Unknown)) (search rules)

small-IsAscii : (s : List ℕ) → IsAscii (str_to_ascii_lowercase s) → IsAscii s
small-IsAscii [] h = IsAscii-nil
small-IsAscii (c ∷ s) h = IsAscii-cons c s (let k : to_ascii_lowercase c < 128 = h 0 in
    grind (arith, nat_tests)) (small-IsAscii s (λ i. h (suc i)))

truth-IsAscii : (s : List ℕ) (w : TruthWord) → SpellsTruth s w → IsAscii s
truth-IsAscii s w p =
    subst IsAscii (sym p.written) (IsAscii-append (spaces p.before) (p.word ++ spaces p.after)
    (spaces-IsAscii p.before)
    (IsAscii-append p.word (spaces p.after) (small-IsAscii p.word
    (subst IsAscii (sym p.in_any_case) (letters-IsAscii w))) (spaces-IsAscii p.after)))

-- the bytes of a text of ASCII characters are these
never : (bytes s : List ℕ) → bytes ≡ encode_utf8_all s → IsNotAscii bytes → IsAscii s → ⊥
never bytes s e other ascii = let same : bytes ≡ s = e ∙ encodes-IsAscii s ascii in
    let low : IsAscii bytes = subst IsAscii (sym same) ascii in let here = low other.0 in
    omega (arith, here, other.1)

pub no_integer : (bytes s : List ℕ) → bytes ≡ encode_utf8_all s → IsNotAscii bytes →
    integer_in (trimmed s) ≡ None
no_integer bytes s e other = by (integer_in (trimmed s)) refl
  where
    by : (o : Option ℤ) → integer_in (trimmed s) ≡ o → o ≡ None
    by None f = refl
    by (Some z) f = absurd (never bytes s e other (integer-IsAscii s z (integer-read s z f)))

pub no_truth : (bytes s : List ℕ) → bytes ≡ encode_utf8_all s → IsNotAscii bytes →
    truth_in (trimmed s) ≡ None
no_truth bytes s e other = by (truth_in (trimmed s)) refl
  where
    by : (o : Option TruthWord) → truth_in (trimmed s) ≡ o → o ≡ None
    by None f = refl
    by (Some w) f = absurd (never bytes s e other (truth-IsAscii s w (truth-read s w f)))

pub same_bytes : (bytes s : List ℕ) → IsAscii bytes → chars bytes ≡ s → bytes ≡ s
same_bytes bytes s ascii e = sym (chars-IsAscii bytes ascii) ∙ e

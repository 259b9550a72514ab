-- Numbers in texts: what `parse` reads from them is what they spell.
use Rattle.std.proofs.Common.{ℕ, ◌≡◌, ◌<◌, ◌≤◌, Bool, true, ◌&&◌, List, [], ◌∷◌, length, ℤ, pos}
use Rattle.std.proofs.Common.{negsuc, FitsSigned, OkIff, Some, None, Result, Ok, Err, if◌then◌else◌}
use Rattle.std.proofs.Common.{refl, sym, ap, subst, ◌∙◌, arith, rules, w64, true≢false, leb, le-leb}
use Rattle.std.proofs.Common.{leb-true, ⊎_elim}
use Rattle.std.specs.List.{list_all}
use Rattle.std.specs.Str.Parse.{ParsesSigned, IsNumeral, digits_value, without_leading_sign}
use Rattle.std.specs.Str.Parse.{signed_digits_value}
use Rattle.std.proofs.lemmas.Str.Parse.{IsNumeralModel, numerals_by_fold}
use Rattle.std.proofs.lemmas.Bool.{cases_Bool}
use Rattle.std.proofs.lemmas.Bool.Decides.{nat_tests}
use Rattle.sql_texts.specs.Names.{is_digit}
use Rattle.sql_values.specs.Spellings.{are_digits, weighed, with_sign, sign_of, without_sign}
use Rattle.sql_values.specs.Spellings.{integer_in}
use Rattle.sql_values.specs.declared.value.Value.TheVariants.{Int}
use Rattle.sql_values.specs.declared.value.ValueFault.TheVariants.{OutOfRange}
use Rattle.sql_values.specs.Values.{Outcome, ranged}
use Rattle.sql_values.specs.Casts.{integer_or_fault}

pub some_digits : (bs : List ℕ) → 0 < length bs → list_all is_digit bs ≡ are_digits bs
some_digits [] h = absurd (omega arith)
some_digits (c ∷ bs) h = refl

-- digits as std reads them
own : IsNumeralModel (λ ds. list_all is_digit ds ≡ true) (weighed 0)
own = numerals_by_fold (λ ds. list_all is_digit ds ≡ true) (search rules) weighed (search rules)

-- ---- the sign

same_rest : (bs : List ℕ) → without_leading_sign bs ≡ without_sign bs
same_rest [] = refl
same_rest (c ∷ s) = grind (arith, nat_tests)

same_value : (bs : List ℕ) → signed_digits_value 10 bs ≡ with_sign (sign_of bs)
    (digits_value 10 (without_sign bs))
same_value [] = refl
same_value (c ∷ s) = grind (arith, nat_tests)

-- ---- what `parse` gives

abbrev pub number_of : List ℕ → ℤ
number_of bs = with_sign (sign_of bs) (weighed 0 (without_sign bs))

all_digits : (ds : List ℕ) → are_digits ds ≡ true → (0 < length ds) × (list_all is_digit ds ≡ true)
all_digits [] h = absurd (true≢false (sym h))
all_digits (d ∷ ds) h = (search rules, h)

read_value : (bs : List ℕ) → are_digits (without_sign bs) ≡ true →
    signed_digits_value 10 bs ≡ number_of bs
read_value bs d =
    same_value bs ∙ ap (with_sign (sign_of bs))
    (sym (own.same (without_sign bs) (own.to (without_sign bs)
    (all_digits (without_sign bs) d).1)))

is_numeral : (bs : List ℕ) → are_digits (without_sign bs) ≡ true →
    IsNumeral 10 (without_leading_sign bs)
is_numeral bs d = subst (IsNumeral 10) (sym (same_rest bs)) (
  (all_digits (without_sign bs) d).0,
  own.to (without_sign bs)
      (all_digits (without_sign bs) d).1,
)

pub parsed : {E : Type 0} (bs : List ℕ) (r : Result ℤ E) → are_digits (without_sign bs) ≡ true →
    ParsesSigned w64 10 bs r → OkIff r (FitsSigned w64 (number_of bs)) (number_of bs)
parsed bs (Ok x) d h = (subst (FitsSigned w64) (read_value bs d) h.0.1, h.1 ∙ read_value bs d)
parsed bs (Err e) d h = λ fits. h (
  is_numeral bs d,
  subst (FitsSigned w64) (sym (read_value bs d))
      fits,
)

in_range : (z : ℤ) → FitsSigned w64 z → ranged z ≡ Ok (Int z)
in_range (pos n) h = ap {B = Outcome} (λ (b : Bool). if b then Ok (Int (pos n)) else Err OutOfRange)
    (le-leb n 9223372036854775807 (omega arith))
in_range (negsuc n) h = ap {B = Outcome} (λ (b : Bool). if b && true then Ok (Int (negsuc n)) else
    Err OutOfRange) (le-leb n 9223372036854775807 (omega arith))

out_of_range : (z : ℤ) → (FitsSigned w64 z → ⊥) → ranged z ≡ Err OutOfRange
out_of_range (pos n) h = ⊎_elim
    (λ e. let k : n ≤ 9223372036854775807 = leb-true n 9223372036854775807 e in
    absurd (h (omega arith)))
    (ap {B = Outcome} (λ (b : Bool). if b then Ok (Int (pos n)) else Err OutOfRange))
    (cases_Bool (leb n 9223372036854775807))
out_of_range (negsuc n) h = ⊎_elim
    (λ e. let k : n ≤ 9223372036854775807 = leb-true n 9223372036854775807 e in
    absurd (h (omega arith)))
    (ap {B = Outcome} (λ (b : Bool). if b && true then Ok (Int (negsuc n)) else Err OutOfRange))
    (cases_Bool (leb n 9223372036854775807))

known : (bs : List ℕ) → are_digits (without_sign bs) ≡ true → integer_in bs ≡ Some (number_of bs)
known bs d = ap (λ (b : Bool). if b then Some (number_of bs) else None) d

pub read_integer : (bs : List ℕ) (n : ℤ) → are_digits (without_sign bs) ≡ true →
    FitsSigned w64 (number_of bs) → n ≡ number_of bs → Ok (Int n) ≡ integer_or_fault (integer_in bs)
read_integer bs n d fits e = ap {B = Outcome} (λ (z : ℤ). Ok (Int z)) e ∙
    sym (ap integer_or_fault (known bs d) ∙ in_range (number_of bs) fits)

pub read_too_great : (bs : List ℕ) → are_digits (without_sign bs) ≡ true →
    (FitsSigned w64 (number_of bs) → ⊥) → Err OutOfRange ≡ integer_or_fault (integer_in bs)
read_too_great bs d great = sym (ap integer_or_fault (known bs d) ∙
    out_of_range (number_of bs) great)

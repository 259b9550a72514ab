-- What `u32` and `u64` read from a text is the number that the text is.
use Rattle.std.proofs.Common.{◌≡◌, ℕ, Bool, true, false, refl, ap, List, [], ◌∷◌, suc}
use Rattle.std.proofs.Common.{Some, None, arith, length, lt-ltb, ltb-true, nat_lt}
use Rattle.std.specs.Prelude.{◌&&◌, ◌^◌, Result, Ok, Err, nat_le}
use Rattle.std.specs.Result.{result_ok}
use Rattle.std.specs.Char.{digit_value}
use Rattle.std.specs.List.{list_all}
use Rattle.std.specs.Str.Parse.{AllDigits, ParsesUnsigned, digits_value, without_leading_plus}
use Rattle.std.proofs.lemmas.Bool.{le-leb, leb-true}
use Rattle.clap.specs.ValueTests.{is_numeral}
use Rattle.clap.proofs.WalkLemmas.{both}
use Rattle.psm_words.specs.Words.{number_up_to}

digits_pass : (ds : List ℕ) → AllDigits 10 ds → list_all (λ d. nat_lt (digit_value d) 10) ds ≡ true
digits_pass [] h = refl
digits_pass (d ∷ ds) h = rw (lt-ltb (digit_value d) 10 h.0) (digits_pass ds h.1)

digits_from : (ds : List ℕ) → list_all (λ d. nat_lt (digit_value d) 10) ds ≡ true → AllDigits 10 ds
digits_from [] e = tt
digits_from (d ∷ ds) e = let parts = both _ _ e in (ltb-true _ _ parts.0, digits_from ds parts.1)

-- an unsigned type of so many bits, whose greatest number is `most`
pub number_read : {E : Type 0} (bits most : ℕ) → suc most ≡ 2 ^ bits → (text : List ℕ)
    (r : Result ℕ E) → ParsesUnsigned bits 10 text r → result_ok r ≡ number_up_to most text
number_read bits most top text (Ok n) h =
    let ds = without_leading_plus text in
    rw (
      lt-ltb 0 (length ds) h.0.0.0,
      digits_pass ds h.0.0.1,
      le-leb (digits_value 10 ds) most (omega (arith, h.0.1)),
    ) (ap Some h.1)
number_read bits most top text (Err e) h =
    let ds = without_leading_plus text in
    go (is_numeral ds && nat_le (digits_value 10 ds) most) refl
  where
    go : (b : Bool) → (is_numeral (without_leading_plus text)
        && nat_le (digits_value 10 (without_leading_plus text)) most) ≡ b
        → None ≡ number_up_to most text
    go false t = rw t refl
    go true t =
        let outer = both _ _ t in
        let inner = both _ _ outer.0 in
        let least = leb-true _ _ outer.1 in
        absurd (h (
          (ltb-true _ _ inner.0, digits_from (without_leading_plus text) inner.1),
          omega (arith, least),
        ))

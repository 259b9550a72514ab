-- The texts of numbers and truth values.
use Rattle.std.proofs.Common.{ℕ, ◌≡◌, ◌<◌, ◌≤◌, ◌^◌, List, length, ℤ, refl, ap, ◌∙◌, sym, arith}
use Rattle.std.proofs.Common.{Bool, nat_le, if◌then◌else◌, Ok, Err, le-leb}
use Rattle.std.specs.Fmt.{signed_decimal}
use Rattle.std.specs.Str.{chars}
use Rattle.std.proofs.lemmas.Fmt.{IsAscii-signed, length_signed_le}
use Rattle.std.proofs.lemmas.Str.{chars-IsAscii}
use Rattle.sql_values.specs.Spellings.{TruthWord, True, False, Unknown, letters}
use Rattle.sql_values.specs.declared.value.Value.TheVariants.{Str}
use Rattle.sql_values.specs.declared.value.ValueFault.{ValueFault}
use Rattle.sql_values.specs.Values.{Outcome}
use lib.Signed.{mag}

pub chars-decimal : (bs : List ℕ) (z : ℤ) → mag z < 2 ^ 63 → bs ≡ signed_decimal z →
    chars bs ≡ signed_decimal z
chars-decimal bs z fits e = ap chars e ∙ chars-IsAscii (signed_decimal z) (IsAscii-signed z fits)

pub decimal-short : (z : ℤ) → mag z < 2 ^ 63 → length (signed_decimal z) ≤ 4096
decimal-short z fits =
    let short : length (signed_decimal z) ≤ 21 = length_signed_le 20 z (omega arith) fits in
    omega arith

pub chars-letters : (w : TruthWord) → chars (letters w) ≡ letters w
unfolding chars
chars-letters True = refl
chars-letters False = refl
chars-letters Unknown = refl

pub letters-short : (w : TruthWord) → length (letters w) ≤ 4096
letters-short True = omega arith
letters-short False = omega arith
letters-short Unknown = omega arith

-- a text for which there is room
pub roomy : (fault : ValueFault) (f l : List ℕ) (n : ℕ) → f ≡ l → length l ≤ n →
    Ok (Str f) ≡ (if nat_le (length l) n then Ok (Str l) else Err fault)
roomy fault f l n e h =
    ap {B = Outcome} (λ (t : List ℕ). Ok (Str t)) e ∙
    sym (ap {B = Outcome} (λ (b : Bool). if b then Ok (Str l) else Err fault) (le-leb _ _ h))

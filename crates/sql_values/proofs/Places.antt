-- Places in a text: those after its end are alike.
use Rattle.std.proofs.Common.{ℕ, zero, suc, ◌≡◌, ◌+◌, ◌-◌, min, max, List, length, take, drop, []}
use Rattle.std.proofs.Common.{refl, sym, ap, ap₂, ◌∙◌, arith, drop_of_length-le, ⊎_elim, ℤ, pos}
use Rattle.std.proofs.Common.{◌+ℤ◌, int_lt, false, Bool, Ok, Err, if◌then◌else◌}
use Rattle.std.proofs.lemmas.Bool.{cases_lt}
use Rattle.sql_values.specs.declared.value.Value.TheVariants.{Str}
use Rattle.sql_values.specs.declared.value.ValueFault.TheVariants.{BadSubstring}
use Rattle.sql_values.specs.Values.{Outcome}
use Rattle.sql_values.specs.Texts.{natural, characters_between, part_of}

take-nil : (n : ℕ) → take {A = ℕ} n [] ≡ []
take-nil zero = refl
take-nil (suc n) = refl

take-none : (n : ℕ) (s : List ℕ) → s ≡ [] → take n s ≡ []
take-none n s e = ap (take n) e ∙ take-nil n

clamped : (s : List ℕ) (from stop : ℕ) → take (stop - max (min (length s + 1) from) 1)
    (drop (max (min (length s + 1) from) 1 - 1) s) ≡ take (stop - max 1 from)
    (drop (max 1 from - 1) s)
clamped s from stop = ⊎_elim
    (λ h. let e : max (min (length s + 1) from) 1 ≡ max 1 from = omega arith in
    ap (λ (n : ℕ). take (stop - n) (drop (n - 1) s)) e)
    (λ h. take-none (stop - max (min (length s + 1) from) 1)
    (drop (max (min (length s + 1) from) 1 - 1) s) (drop_of_length-le s (omega arith))
    ∙ sym (take-none (stop - max 1 from) (drop (max 1 from - 1) s)
    (drop_of_length-le s (omega arith))))
    (cases_lt from (length s + 1))

pub part-is : (f s : List ℕ) (from count : ℤ) (first end : ℕ) → int_lt count (pos 0) ≡ false →
    first ≡ max (min (length s + 1) (natural from)) 1
    → end ≡ min (length s + 1) (natural (from +ℤ count)) →
    f ≡ take (end - first) (drop (first - 1) s) → Ok (Str f) ≡ part_of s from count
part-is f s from count first end p e g h =
    let part : f ≡ characters_between from (from +ℤ count) s =
    h ∙ ap₂ (λ (a b : ℕ). take (b - a) (drop (a - 1) s)) e g ∙
    clamped s (natural from) (min (length s + 1) (natural (from +ℤ count))) in
    ap {B = Outcome} (λ (t : List ℕ). Ok (Str t)) part
    ∙ sym (ap (λ (b : Bool). if b then Err BadSubstring else Ok
    (Str (characters_between from (from +ℤ count) s))) p)

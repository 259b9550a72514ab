-- What is found after uses, as the count of those that pass.
use Rattle.std.proofs.Common.{◌≡◌, ◌≤◌, ◌+◌, ◌-◌, ◌^◌, ℕ, Bool, true, false, [], ◌∷◌, refl, sym}
use Rattle.std.proofs.Common.{ap, ◌∙◌, arith, subst}
use Rattle.std.proofs.lemmas.List.Sums.{sum_by-cons}
use Rattle.std.specs.List.{count_by}
use Rattle.std.specs.Prelude.{if◌then◌else◌}
use Rattle.rel_algebra.specs.Applies.{counted}
use Rattle.catalog_store.specs.Uses.{Use, Uses, calls, reads}
use Rattle.block_plans.specs.Callees.{Callees}
use Rattle.call_places.specs.declared.places.CallPlaces.{CallPlaces}
use Rattle.call_places.specs.Places.{is_inlined, is_interpreted}
use Rattle.call_places.specs.Found.{one_more, with_use, with_uses}

from_zero : (n : ℕ) → 0 + n ≡ n
from_zero n = omega arith

-- one more is counted before the others or with them
more : (b : Bool) (n k : ℕ) → counted (one_more b n + k) ≡ counted (n + ((if b then 1 else 0) + k))
more true n k = omega arith
more false n k = ap (λ m. counted (n + m)) (sym (from_zero k))

small : (b : Bool) (n : ℕ) → n ≤ 2 ^ 64 - 1 → one_more b n ≤ 2 ^ 64 - 1
small true n h = omega arith
small false n h = h

one_more_use : (p : Use → Bool) (u : Use) (us : Uses) → count_by p (u ∷ us) ≡
    (if p u then 1 else 0) + count_by p us
one_more_use p u us = sum_by-cons (λ v. if p v then 1 else 0) u us

met_inlined : (known : Callees) (found : CallPlaces) (u : Use) →
    (with_use known found u).inlined ≡ one_more (is_inlined known u) found.inlined
met_inlined known found (calls name arguments) = refl
met_inlined known found (reads name) = refl

met_interpreted : (known : Callees) (found : CallPlaces) (u : Use) →
    (with_use known found u).interpreted ≡ one_more (is_interpreted known u) found.interpreted
met_interpreted known found (calls name arguments) = refl
met_interpreted known found (reads name) = refl

all_inlined : (known : Callees) (found : CallPlaces) (us : Uses) → found.inlined ≤ 2 ^ 64 - 1 →
    (with_uses known found us).inlined ≡ counted (found.inlined + count_by (is_inlined known) us)
all_inlined known found [] h = omega arith
all_inlined known found (u ∷ us) h =
    let met = met_inlined known found u in
    all_inlined known (with_use known found u) us
    (subst (λ n. n ≤ 2 ^ 64 - 1) (sym met) (small (is_inlined known u) found.inlined h))
    ∙ ap (λ n. counted (n + count_by (is_inlined known) us)) met
    ∙ more (is_inlined known u) found.inlined (count_by (is_inlined known) us)
    ∙ ap (λ n. counted (found.inlined + n)) (sym (one_more_use (is_inlined known) u us))

all_interpreted : (known : Callees) (found : CallPlaces) (us : Uses) →
    found.interpreted ≤ 2 ^ 64 - 1 →
    (with_uses known found us).interpreted ≡ counted (found.interpreted +
    count_by (is_interpreted known) us)
all_interpreted known found [] h = omega arith
all_interpreted known found (u ∷ us) h =
    let met = met_interpreted known found u in
    all_interpreted known (with_use known found u) us
    (subst (λ n. n ≤ 2 ^ 64 - 1) (sym met) (small (is_interpreted known u) found.interpreted h))
    ∙ ap (λ n. counted (n + count_by (is_interpreted known) us)) met
    ∙ more (is_interpreted known u) found.interpreted (count_by (is_interpreted known) us)
    ∙ ap (λ n. counted (found.interpreted + n)) (sym (one_more_use (is_interpreted known) u us))

-- nothing is found before the first use
abbrev pub none : CallPlaces
none = record { inlined = 0; interpreted = 0 }

pub inlined_of : (known : Callees) (us : Uses) →
    (with_uses known none us).inlined ≡ counted (count_by (is_inlined known) us)
inlined_of known us =
    let all = all_inlined known none us (omega arith) in
    all ∙ ap counted (from_zero (count_by (is_inlined known) us))

pub interpreted_of : (known : Callees) (us : Uses) →
    (with_uses known none us).interpreted ≡ counted (count_by (is_interpreted known) us)
interpreted_of known us =
    let all = all_interpreted known none us (omega arith) in
    all ∙ ap counted (from_zero (count_by (is_interpreted known) us))

-- Places that are gone through, one after another.
use Rattle.std.proofs.Common.{ℕ, suc, ◌≡◌, ◌<◌, ◌≤◌, ◌+◌, List, sym, subst, arith, length, drop}
use Rattle.std.proofs.Common.{get_or}
use Rattle.std.proofs.lemmas.List.{drop_more, drop_all}
use Rattle.atomic_undo.specs.Changes.{Climb}

pub climb_step : (places : List ℕ) (i low high : ℕ) → i < length places → low ≤ get_or places i 0 →
    get_or places i 0 < high → Climb (get_or places i 0 + 1) (drop (i + 1) places) high →
    Climb low (drop i places) high
climb_step places i low high l a b c =
    let e : get_or places i 0 + 1 ≡ suc (get_or places i 0) = omega arith in
    subst (λ ps. Climb low ps high) (sym (drop_more places i 0 l))
    (a, b, subst (λ n. Climb n (drop (i + 1) places) high) e c)

pub climb_end : (places : List ℕ) (i low high : ℕ) → length places ≤ i →
    Climb low (drop i places) high
climb_end places i low high l = subst (λ ps. Climb low ps high) (sym (drop_all i places l)) tt

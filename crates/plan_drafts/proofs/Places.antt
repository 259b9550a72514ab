-- Places in a row, from one to another.
use Rattle.std.proofs.Common.{ℕ, ◌≡◌, ◌<◌, ◌≤◌, ◌+◌, ◌-◌, zero, suc, [], ◌∷◌, length, refl, ap, ◌∙◌}
use Rattle.std.proofs.Common.{arith}
use Rattle.rel_algebra.specs.Joins.{places}

pub places-next : (p end : ℕ) → p < end → places p (end - p) ≡ p ∷ places (p + 1) (end - (p + 1))
places-next p end h =
    let e : end - p ≡ suc (end - (p + 1)) = omega (arith, h) in
    let f : suc p ≡ p + 1 = omega arith in
    ap (places p) e ∙ ap (λ q. p ∷ places q (end - (p + 1))) f

pub places-none : (p end : ℕ) → end ≤ p → places p (end - p) ≡ []
places-none p end h = let e : end - p ≡ 0 = omega (arith, h) in ap (places p) e

pub places-long : (i n : ℕ) → length (places i n) ≡ n
places-long i zero = refl
places-long i (suc n) = ap suc (places-long (suc i) n)

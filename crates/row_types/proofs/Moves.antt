-- Cells that are moved out of their places, one after another.
use Rattle.std.proofs.Common.{◌≡◌, ℕ, zero, suc, ◌+◌, ◌<◌, List, [], ◌∷◌, length, drop}
use Rattle.std.proofs.Common.{slice_index_or, slice_set, ap, sym, add-one, arith}

step : {A : Type 0} (xs : List A) (i : ℕ) (x y : A) → i < length xs → x ≡ slice_index_or xs i x →
    drop i xs ≡ x ∷ drop (suc i) (slice_set xs i y)
step [] i x y l h = absurd (omega (arith, l))
step (z ∷ xs) zero x y l h = ap (λ w. w ∷ xs) (sym h)
step (z ∷ xs) (suc i) x y l h = step xs i x y (omega (arith, l)) h

-- what stood at a place stands in front of what is left
pub moved_out : {A : Type 0} (xs : List A) (i : ℕ) (x y : A) → i < length xs →
    x ≡ slice_index_or xs i x → drop i xs ≡ x ∷ drop (i + 1) (slice_set xs i y)
moved_out xs i x y l h = rw add-one (step xs i x y l h)

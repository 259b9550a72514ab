-- A list from a place on, as a loop over it sees it.
use Rattle.std.proofs.Common.{◌≡◌, sym, ap, List, ◌∷◌, ℕ, ◌+◌, ◌<◌, suc, drop, length, get_or}
use Rattle.std.proofs.Common.{add-one}
use Rattle.std.proofs.Math.Seq.{drop-cons}

pub unrolled : {A : Type 0} (xs : List A) (i : ℕ) (x : A) → i < length xs → x ≡ get_or xs i x →
    drop i xs ≡ x ∷ drop (i + 1) xs
unrolled xs i x h e = rw (drop-cons xs i x h) (rw add-one (ap (λ y. y ∷ drop (suc i) xs) (sym e)))

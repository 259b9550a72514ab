-- How a reading goes on.
use Rattle.std.proofs.Common.{◌≡◌, ℕ, ◌≤◌, ◌+◌, List, ◌++◌, length, take, ◌∙◌, ap, subst}
use Rattle.std.proofs.lemmas.List.{take-append-le, length-take-le}
use Rattle.std.proofs.Math.Seq.{take-append-add}

after_front : (front back : List ℕ) (at n : ℕ) → length front ≡ at →
    take (at + n) (front ++ back) ≡ front ++ take n back
after_front front back at n e = subst (λ (k : ℕ). take (k + n) (front ++ back) ≡ front ++
    take n back) e (take-append-add front back n)

-- what a read after `at` leaves, up to the n bytes of it
pub piece_after : (t buf post : List ℕ) (at n : ℕ) → at ≤ length t → n ≤ length buf
    → take (at + n) (take at t ++ (buf ++ post)) ≡ take at t ++ take n buf
piece_after t buf post at n within fits =
    after_front (take at t) (buf ++ post) at n (length-take-le at t within)
    ∙ ap (λ x. take at t ++ x) (take-append-le n buf post fits)

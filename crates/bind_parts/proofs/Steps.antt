-- Judgements in turn, over plain variables.
use Rattle.std.proofs.Common.{◌≡◌, sym, ap, ◌∙◌, List, ◌∷◌, ℕ, ◌+◌, ◌<◌, suc, drop, length, get_or}
use Rattle.std.proofs.Common.{add-one}
use Rattle.std.proofs.Math.Seq.{drop-cons}
use Rattle.bind_faults.specs.declared.notes.Notes.{Notes}
use Rattle.bind_faults.specs.Faults.{Noted, taken, after}
use Rattle.bind_faults.proofs.Laws.{taken_after}

pub unrolled : {A : Type 0} (xs : List A) (i : ℕ) (x : A) → i < length xs → x ≡ get_or xs i x →
    drop i xs ≡ x ∷ drop (i + 1) xs
unrolled xs i x h e = rw (drop-cons xs i x h) (rw add-one (ap (λ y. y ∷ drop (suc i) xs) (sym e)))

-- one judgement after another
pub next : {A B : Type 0} (n n1 n2 : Notes) (x : Noted A) (y : Noted B) → n1 ≡ taken n x →
    n2 ≡ taken n1 y → n2 ≡ taken n (after x y)
next n n1 n2 x y p q = q ∙ ap (λ m. taken m y) p ∙ taken_after n x y

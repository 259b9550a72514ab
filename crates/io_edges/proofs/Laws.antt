-- What crates above may cite: how the words on sinks go on from one call to the next.
use Rattle.std.proofs.Common.{ℕ, List, [], ◌++◌, sym, ◌∙◌, ap, subst, append-nil, append_assoc}
use Rattle.std.specs.Prelude.{Option, None, Some}
use Rattle.io_edges.specs.TakenBytes.{TakenBytes, with_bytes, Takes}

pub Takes-nil : (a : Option TakenBytes) → Takes a a []
Takes-nil None = tt
Takes-nil (Some t) = ap (λ bs. Some (record { bytes = bs; flushed = t.flushed }))
    (sym (append-nil t.bytes))

pub Takes-trans : (a b c : Option TakenBytes) (xs ys : List ℕ) → Takes a b xs → Takes b c ys →
    Takes a c (xs ++ ys)
Takes-trans None b c xs ys p q = tt
Takes-trans (Some t) b c xs ys p q =
    let r : Takes (Some (with_bytes t xs)) c ys =
    subst (λ (o : Option TakenBytes). Takes o c ys) p q in
    r ∙ ap (λ bs. Some (record { bytes = bs; flushed = t.flushed })) (append_assoc t.bytes xs ys)

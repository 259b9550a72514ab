-- Judges of parts that are judged in turn, as a loop over the parts does.
use Rattle.std.proofs.Common.{◌≡◌, sym, ap, ap₂, ◌∙◌, List, ◌++◌, Option, ℕ, ◌+◌, ◌<◌, map, drop}
use Rattle.std.proofs.Common.{length, get_or}
use Rattle.bind_faults.specs.declared.notes.Notes.{Notes}
use Rattle.bind_faults.specs.declared.fault.Fault.{Fault}
use Rattle.bind_faults.specs.Faults.{Noted, taken, noted, ◌>>◌}
use Rattle.bind_faults.proofs.Laws.{noted_append}
use Rattle.bind_parts.specs.Turns.{each_noted}
use Rattle.bind_changes.specs.Writing.{asked}
use Rattle.bind_parts.proofs.Laws.{each-value, each-notes, each-map}

module _ {A X Y : Type 0} (f : A → Y → Noted A) (g : X → Y) where
  pub mapped-value : (xs : List X) (i : ℕ) (x : X) (so more : A) → i < length xs →
      x ≡ get_or xs i x → more ≡ (f so (g x)).value
      → (each_noted f more (map g (drop (i + 1) xs))).value ≡
      (each_noted f so (map g (drop i xs))).value
  mapped-value xs i x so more h is p =
      ap (λ (n : Noted A). n.value) (each-map f g more (drop (i + 1) xs)) ∙
      each-value (λ a y. f a (g y)) xs i x so more h is p
      ∙ sym (ap (λ (n : Noted A). n.value) (each-map f g so (drop i xs)))

  pub mapped-notes : (xs : List X) (i : ℕ) (x : X) (so more : A) (n m : Notes) → i < length xs →
      x ≡ get_or xs i x → more ≡ (f so (g x)).value → m ≡ taken n (f so (g x))
      → taken m (each_noted f more (map g (drop (i + 1) xs))) ≡ taken n
      (each_noted f so (map g (drop i xs)))
  mapped-notes xs i x so more n m h is p q =
      ap (taken m) (each-map f g more (drop (i + 1) xs)) ∙
      each-notes (λ a y. f a (g y)) xs i x so more n m h is p q
      ∙ sym (ap (taken n) (each-map f g so (drop i xs)))

-- faults alone, noted before
abbrev pub faulted : Notes → List Fault → Notes
faulted n fs = record { least = noted n.least fs; uses = n.uses }

pub faults-notes : {A : Type 0} (n m : Notes) (fs : List Fault) (y : Noted A) →
    m ≡ taken (faulted n fs) y → m ≡ taken n (fs >> y)
faults-notes n m fs y p = p ∙ ap (λ (l : Option Fault).
    record { least = l; uses = n.uses ++ y.uses }) (sym (noted_append n.least fs y.faults))

-- what is asked of a value, noted after it
pub asked-notes : {A B : Type 0} (make : A → B) (faults : A → List Fault) (x : Noted A) (v : A)
    (n n1 m : Notes) → n1 ≡ taken n x → v ≡ x.value → m ≡ faulted n1 (faults v)
    → m ≡ taken n (asked make faults x)
asked-notes make faults x v n n1 m p e q =
    q ∙ ap₂ (λ (k : Notes) a. faulted k (faults a)) p e ∙
    ap (λ (l : Option Fault). record { least = l; uses = n.uses ++ x.uses })
    (sym (noted_append n.least x.faults (faults x.value)))

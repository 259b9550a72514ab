-- The laws on which upper crates stand.
use Rattle.std.proofs.Common.{◌≡◌, refl, sym, List, [], ◌∷◌, ◌++◌, append_assoc, Option, None}
use Rattle.bind_faults.specs.declared.fault.Fault.{Fault}
use Rattle.bind_faults.specs.declared.notes.Notes.{Notes}
use Rattle.bind_faults.specs.Faults.{Noted, noted, least, lesser, taken, after}
pub use Rattle.bind_faults.proofs.Apart.{none_noted, merged_least}
use Rattle.bind_faults.proofs.Sooner.{is_free as free}

-- faults in turn
pub noted_append : (n : Option Fault) (a b : List Fault) → noted n (a ++ b) ≡ noted (noted n a) b
noted_append n [] b = refl
noted_append n (f ∷ a) b = noted_append (lesser n f) a b

-- there is no least fault only where there is no fault
pub is_free : (fs : List Fault) → least fs ≡ None → fs ≡ []
is_free = free

-- one judgement after another
pub taken_after : {A B : Type 0} (n : Notes) (x : Noted A) (y : Noted B) →
    taken (taken n x) y ≡ taken n (after x y)
taken_after n x y =
    let l : noted (noted n.least x.faults) y.faults ≡ noted n.least (x.faults ++ y.faults) =
    sym (noted_append n.least x.faults y.faults) in
    let u : (n.uses ++ x.uses) ++ y.uses ≡ n.uses ++ (x.uses ++ y.uses) =
    append_assoc n.uses x.uses y.uses in cc

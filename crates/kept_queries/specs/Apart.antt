-- That no call runs the routine around what is kept. ISO/IEC 9075-2, 10.4 (routine invocation).
use Rattle.std.specs.Prelude.{ℕ, false, List, Option, Some, None}
use Rattle.std.specs.Borrow.{Bor}
use Rattle.std.specs.Coded.{Π_prop, Unit-prop, Coded-set, coded_bool}
use Rattle.rel_algebra.specs.Plain.{planned_routine}
use Rattle.block_plans.specs.Callees.{Callees, callee}
use Rattle.block_places.specs.Seen.{IsApart}

-- no call runs the routine of this name, if there is one
abbrev pub AreApart : Callees → Option (Bor (List ℕ)) → Type 0
AreApart k None = Unit {0}
AreApart k (Some name) = IsApart k name.now

pub apart-prop : (k : Callees) (own : Option (Bor (List ℕ))) → IsProp (AreApart k own)
apart-prop k None = Unit-prop
apart-prop k (Some name) =
    Π_prop (λ (n : ℕ). Coded-set coded_bool (planned_routine (callee k name.now n)) false)

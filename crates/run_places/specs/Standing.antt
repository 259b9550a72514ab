-- That the calls of a catalog stand in one way at most, and that it is another in one way at most,
-- so that a place can keep both.
-- ISO/IEC 9075-2, 10.4 (routine invocation).
use Rattle.std.specs.Prelude.{◌≡◌, ℕ, ◌++◌, List, [], ◌∷◌, true, is_some}
use Rattle.std.specs.Coded.{×_prop, →_prop, Unit-prop, Coded-set, coded_bool}
use Rattle.std.specs.List.{AllByRecursion-prop}
use Rattle.catalog_store.specs.Catalog.{Catalog, object_named}
use Rattle.catalog_store.specs.Codes.{coded_catalog}
use Rattle.viewing_laws.specs.Standing.{CallsStandAfter, CallsStandBefore, StandsBeside}
use Rattle.viewing_laws.specs.Standing.{object_calls}

beside-prop : (own : List ℕ) (known : Catalog) (name : List ℕ) →
    IsProp (StandsBeside own known name)
beside-prop own known name = →_prop (Coded-set coded_bool (is_some (object_named name known)) true)

after-prop : (known es : Catalog) → IsProp (CallsStandAfter known es)
after-prop known [] = Unit-prop
after-prop known (e ∷ es) = ×_prop
    (AllByRecursion-prop (StandsBeside e.name known) (beside-prop e.name known)
    (object_calls e.object)) (after-prop (known ++ e ∷ []) es)

pub before-prop : (catalog : Catalog) → IsProp (CallsStandBefore catalog)
before-prop catalog = after-prop [] catalog

pub same-prop : (one other : Catalog) → IsProp (one ≡ other)
same-prop one other = Coded-set coded_catalog one other

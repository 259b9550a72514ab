-- How names keep what they stand for as the catalog changes. ISO/IEC 9075-2, 4.17 (schemas).
use Rattle.std.specs.Prelude.{◌≡◌, ℕ, List, [], ◌∷◌, ◌++◌}
use Rattle.catalog_store.specs.Catalog.{Entry, Catalog, object_named}
use Rattle.catalog_store.specs.Users.{without}

-- one more entry leaves what every other name stands for
abbrev pub AddingLeavesOthers : Type 0
AddingLeavesOthers = (name : List ℕ) (known : Catalog) (entry : Entry) → ¬ (name ≡ entry.name) →
    object_named name (known ++ entry ∷ []) ≡ object_named name known

-- an entry less leaves what every other name stands for
abbrev pub DroppingLeavesOthers : Type 0
DroppingLeavesOthers = (name other : List ℕ) (known : Catalog) → ¬ (other ≡ name) →
    object_named other (without name known) ≡ object_named other known

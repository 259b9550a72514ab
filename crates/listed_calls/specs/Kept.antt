-- That routines whose heads list what their bodies call go on calling themselves and those before
-- them alone, as entries are made and dropped. ISO/IEC 9075-2, 11.60 (SQL-invoked routine) and
-- 11.62 (drop routine statement).
use Rattle.std.specs.Prelude.{◌≡◌, ℕ, List, [], ◌∷◌, ◌++◌}
use Rattle.std.specs.List.{AllByRecursion}
use Rattle.catalog_store.specs.declared.entry.Object.{Object as HeldObject}
use Rattle.catalog_store.specs.Catalog.{Catalog}
use Rattle.catalog_store.specs.Entries.{entry_of, ObjectFits}
use Rattle.catalog_store.specs.Users.{users_of, without}
use Rattle.viewing_laws.specs.Standing.{CallsStandBefore, HeadLists}

-- Heads list what bodies call, and each routine calls itself and those before it alone.
pub record CallsListed (catalog : Catalog) : Type 0 where
  pub heads : AllByRecursion HeadLists catalog
  pub stand : CallsStandBefore catalog

-- Calls stand before what calls them as entries come and go.
pub record CallsKept : Type 0 where
  -- one entry more that fits, whose head lists what its body calls
  pub making : (known : Catalog) (name : List ℕ) (object : HeldObject) → CallsStandBefore known →
      ObjectFits known object → HeadLists (entry_of known name object) →
      CallsStandBefore (known ++ entry_of known name object ∷ [])
  -- one entry less that no other uses
  pub dropping : (known : Catalog) (name : List ℕ) → CallsListed known → users_of name known ≡ 0 →
      CallsListed (without name known)

-- Catalogs whose functions with plans have them. ISO/IEC 9075-2, 10.4 (routine invocation).
use Rattle.std.specs.Prelude.{Some, [], ◌∷◌}
use Rattle.catalog_store.specs.Catalog.{Catalog}
use Rattle.catalog_store.specs.Planning.{IsPlannedObject}

-- each function that is kept with a plan is planned
abbrev pub EachPlanned : Catalog → Type 0
EachPlanned [] = Unit {0}
EachPlanned (e ∷ es) = IsPlannedObject (Some e.object) × EachPlanned es

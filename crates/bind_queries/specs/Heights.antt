-- The heights of routines. ISO/IEC 9075-4, 9.20 (SQL-invoked function).
use Rattle.std.specs.Prelude.{ℕ, max, List, [], ◌∷◌, Option, Some, None}
use Rattle.catalog_store.specs.Catalog.{Object, TableObject, FunctionObject, InterpretedObject}
use Rattle.catalog_store.specs.Catalog.{ProcedureObject, Catalog, object_named}

-- how high an object of the catalog stands: a routine one above what it calls, a table at 0
abbrev pub height_of : Option Object → ℕ
height_of None = 0
height_of (Some (TableObject t)) = 0
height_of (Some (FunctionObject f)) = f.height
height_of (Some (InterpretedObject f)) = f.height
height_of (Some (ProcedureObject p)) = p.height

-- how high the object of a name stands, 0 where there is none
abbrev pub height_named : Catalog → List ℕ → ℕ
height_named catalog name = height_of (object_named name catalog)

-- the greatest height among routines, 0 where there is none
abbrev pub greatest_height : Catalog → List (List ℕ) → ℕ
greatest_height catalog [] = 0
greatest_height catalog (name ∷ names) = max (height_named catalog name)
    (greatest_height catalog names)

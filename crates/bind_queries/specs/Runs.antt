-- What a plan can use of the catalog, and whether the routine that is made is new to it. ISO/IEC
-- 9075-2, 10.4 (routine invocation).
use Rattle.std.specs.Prelude.{◌≡◌, ℕ, Bool, true, false, List, Option, Some, None}
use Rattle.std.specs.List.{list_all}
use Rattle.catalog_store.specs.Catalog.{Object, TableObject, FunctionObject, InterpretedObject}
use Rattle.catalog_store.specs.Catalog.{ProcedureObject, Catalog, object_named}
use Rattle.bind_sight.specs.declared.scope.EnclosingRoutine.{EnclosingRoutine}

-- a table, or a function with a plan
abbrev pub is_run : Option Object → Bool
is_run None = false
is_run (Some (TableObject t)) = true
is_run (Some (FunctionObject f)) = true
is_run (Some (InterpretedObject f)) = false
is_run (Some (ProcedureObject p)) = false

-- each name stands for one
abbrev pub all_run : Catalog → List (List ℕ) → Bool
all_run known names = list_all (λ name. is_run (object_named name known)) names

-- a plan may use what each of these names stands for
abbrev pub Runs : Catalog → List (List ℕ) → Type 0
Runs known names = all_run known names ≡ true

-- the name of the routine that is made stands for nothing
abbrev pub IsNew : Catalog → Option EnclosingRoutine → Type 0
IsNew known None = Unit {0}
IsNew known (Some o) = object_named o.name known ≡ None

-- Which functions have plans. ISO/IEC 9075-2, 10.4 (routine invocation).
use Rattle.std.specs.Prelude.{ℕ, ◌≡◌, true, List, Option, Some, None}
use Rattle.rel_algebra.specs.Plain.{planned_routine}
use Rattle.rel_algebra.specs.Tree.{parameters_of}
use Rattle.catalog_store.specs.Catalog.{Function, Object, TableObject, FunctionObject}
use Rattle.catalog_store.specs.Catalog.{InterpretedObject, ProcedureObject, Catalog, object_named}

-- what a call of a function runs is planned, and takes the function's parameters
pub record IsPlannedFunction (f : Function) : Type 0 where
  pub planned : planned_routine f.routine ≡ true
  pub parameters : parameters_of f.routine ≡ f.parameters

-- a function that is kept with a plan is planned
abbrev pub IsPlannedObject : Option Object → Type 0
IsPlannedObject None = Unit {0}
IsPlannedObject (Some (TableObject row_type)) = Unit {0}
IsPlannedObject (Some (FunctionObject f)) = IsPlannedFunction f
IsPlannedObject (Some (InterpretedObject f)) = Unit {0}
IsPlannedObject (Some (ProcedureObject p)) = Unit {0}

-- each function of the catalog that is kept with a plan is planned
abbrev pub AllPlanned : Catalog → Type 0
AllPlanned known = (name : List ℕ) → IsPlannedObject (object_named name known)

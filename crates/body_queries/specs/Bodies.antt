-- Bodies of routines. ISO/IEC 9075-2, 11.60 (SQL-invoked routine).
use Rattle.std.specs.Prelude.{◌≡◌, ℕ, true, List, length, Some}
use Rattle.rel_algebra.specs.Emit.{emit_body, top}
use Rattle.rel_algebra.specs.Plain.{planned_expr, planned_routine}
use Rattle.rel_algebra.specs.Tree.{parameters_of}
use Rattle.catalog_store.specs.declared.entry.FunctionPlan.{FunctionPlan}
use Rattle.catalog_store.specs.declared.entry.InterpretedFunction.{InterpretedFunction}
use Rattle.catalog_store.specs.declared.entry.Procedure.{Procedure}
use Rattle.catalog_store.specs.declared.entry.RoutineRecord.{RoutineRecord}
use Rattle.catalog_store.specs.Catalog.{Catalog, FunctionObject, InterpretedObject}
use Rattle.catalog_store.specs.Catalog.{ProcedureObject, object_named}
use Rattle.catalog_store.specs.Entries.{function_of, interpreted_of, procedure_of}
use Rattle.catalog_store.specs.Kept.{IsPlan}
use Rattle.catalog_store.specs.View.{tree_of}
use Rattle.catalog_store.specs.Widths.{width_in}
use Rattle.routine_views.specs.Routines.{routines_of}
use Rattle.body_queries.specs.declared.routines.RoutineBody.{RoutineBody}
use Rattle.body_queries.specs.declared.routines.RoutineBody.TheVariants as body

-- a name stands for this function, whose body is a statement
abbrev pub IsFunction : Catalog → List ℕ → InterpretedFunction → Type 0
IsFunction known name f = object_named name known ≡ Some (InterpretedObject (interpreted_of f))

-- a name stands for this procedure
abbrev pub IsProcedure : Catalog → List ℕ → Procedure → Type 0
IsProcedure known name p = object_named name known ≡ Some (ProcedureObject (procedure_of p))

-- a name stands for this function, which only returns an expression, and that has a plan
pub record IsReturning (known : Catalog) (name : List ℕ) (r : RoutineRecord) : Type 0 where
  pub stands : object_named name known ≡ Some (FunctionObject (function_of known r))
  pub planned : planned_expr (tree_of known r.body) ≡ true

-- the routine of a name has such a body
abbrev pub IsBodyOf : Catalog → List ℕ → RoutineBody → Type 0
IsBodyOf known name (body.Function f) = IsFunction known name f.now
IsBodyOf known name (body.Procedure p) = IsProcedure known name p.now
IsBodyOf known name (body.Returning r) = IsReturning known name r.now

-- the routine of a name has a plan and takes so many parameters, and this is the plan of its body,
-- its parameters the arguments
pub record HasOwnPlan (known : Catalog) (name : List ℕ) (count : ℕ) (p : FunctionPlan) :
    Type 0 where
  pub planned : planned_routine (routines_of known name) ≡ true
  pub parameters : count ≡ length (parameters_of (routines_of known name))
  pub plan : IsPlan p (emit_body (routines_of known name) (width_in known) (top count) 0)

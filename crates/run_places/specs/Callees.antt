-- What a call of a name calls. ISO/IEC 9075-2, 10.4 (routine invocation).
use Rattle.std.specs.Prelude.{ℕ, ◌≡◌, true, List, []}
use Rattle.sql_values.specs.declared.value.Value.{Value}
use Rattle.sql_values.specs.declared.value.Value.TheVariants.{Null}
use Rattle.bound_trees.specs.declared.expr.BoundExpr.{BoundExpr}
use Rattle.rel_algebra.specs.Tree.{Routine, Returned, modes_of, parameters_of}
use Rattle.rel_algebra.specs.World.{World, Gives}
use Rattle.rel_algebra.specs.Plain.{planned_expr}
use Rattle.rel_algebra.specs.Meaning.{call, perform}
use Rattle.catalog_store.specs.Catalog.{Catalog}
use Rattle.catalog_store.specs.Entries.{interpreted_of, procedure_of}
use Rattle.catalog_store.specs.declared.entry.FunctionHead.{FunctionHead}
use Rattle.catalog_store.specs.declared.entry.Procedure.{Procedure}
use Rattle.routine_views.specs.Views.{expr_in}
use Rattle.routine_views.specs.Routines.{function_view, procedure_view, routines_of}
use Rattle.run_places.specs.Places.{no_routine}
use Rattle.run_places.specs.declared.callee.Callee.{Callee}
use Rattle.run_places.specs.declared.callee.Callee.TheVariants.{Planned, Interpreted, Nothing}

-- a routine is the function of this head that returns this, and it has a plan
pub record IsPlanned (catalog : Catalog) (routine : Routine) (head : FunctionHead)
    (body : BoundExpr) : Type 0 where
  pub stands : routine ≡ Returned head.parameters head.returns (expr_in (no_routine catalog) body)
  pub planned : planned_expr (expr_in (no_routine catalog) body) ≡ true

-- a call of a routine takes its arguments as they are, and gives NULL
pub record GivesNull (routine : Routine) : Type 0 where
  pub parameters : parameters_of routine ≡ []
  pub null : (values : List Value) (w : World) → call routine values w ≡ Gives Null w

-- a CALL of a routine takes its arguments as they are, and gives nothing back
pub record GivesNothing (routine : Routine) : Type 0 where
  pub parameters : modes_of routine ≡ []
  pub nothing : (values : List Value) (w : World) → perform routine values w ≡ Gives [] w

-- a name stands for this procedure
abbrev pub IsProcedure : Catalog → List ℕ → Procedure → Type 0
IsProcedure catalog name p =
    routines_of catalog name ≡ procedure_view (routines_of catalog) name (procedure_of p)

-- a name stands for what is called
abbrev pub IsCallee : Catalog → List ℕ → Callee → Type 0
IsCallee catalog name (Planned head body) =
    IsPlanned catalog (routines_of catalog name) head.now body.now
IsCallee catalog name (Interpreted f) =
    routines_of catalog name ≡ function_view (routines_of catalog) name (interpreted_of f.now)
IsCallee catalog name Nothing = GivesNull (routines_of catalog name)

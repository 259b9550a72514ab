-- What the names of a catalog stand for as calls ask for it. ISO/IEC 9075-2, 10.4 (routine
-- invocation).
use Rattle.std.proofs.Common.{◌≡◌, ℕ, List, Option, None, Some, refl, sym, ap, ◌∙◌}
use Rattle.std.proofs.Common.{subst}
use Rattle.std.specs.List.{IsDistinct}
use Rattle.std.specs.Str.{bytes_eq}
use Rattle.row_types.specs.declared.RowType.{RowType}
use Rattle.bound_trees.specs.declared.expr.BoundExpr.{BoundExpr}
use Rattle.rel_algebra.specs.Plain.{planned_expr}
use Rattle.rel_algebra.specs.Tree.{Expr, Returned, Routine}
use Rattle.catalog_store.specs.declared.entry.InterpretedFunction.{InterpretedFunction}
use Rattle.catalog_store.specs.declared.entry.Procedure.{Procedure}
use Rattle.catalog_store.specs.declared.entry.RoutineRecord.{RoutineRecord}
use Rattle.catalog_store.specs.Catalog.{Catalog, names_of, object_named, missing, TableObject}
use Rattle.catalog_store.specs.Catalog.{FunctionObject, InterpretedObject, ProcedureObject}
use Rattle.catalog_store.specs.Entries.{function_of, interpreted_of, procedure_of, FunctionFits}
use Rattle.catalog_store.specs.View.{tree_of}
use Rattle.routine_views.specs.Views.{expr_in}
use Rattle.routine_views.specs.Routines.{function_view, routines_of}
use Rattle.viewing_laws.specs.Planned.{PlannedViews}
use Rattle.viewing_laws.specs.Standing.{CallsStandBefore, RoutinesByName}
use Rattle.run_places.specs.Places.{no_routine}
use Rattle.run_places.specs.Callees.{IsPlanned, IsProcedure, GivesNothing, GivesNull}

-- what is there, where it is
abbrev there_or : {A : Type 0} → A → Option A → A
there_or d None = d
there_or d (Some x) = x

pub same_there : {A : Type 0} (x y : A) → Some x ≡ Some y → x ≡ y
same_there x y h = ap (there_or x) h

-- no routine
pub missing_null : (r : Routine) → r ≡ missing → GivesNull r
missing_null r is = subst GivesNull (sym is)
    (record { parameters = refl; null = λ values w. refl })

pub missing_nothing : (r : Routine) → r ≡ missing → GivesNothing r
missing_nothing r is = subst GivesNothing (sym is)
    (record { parameters = refl; nothing = λ values w. refl })

module _ (law : RoutinesByName) (views : PlannedViews) (catalog : Catalog) (name : List ℕ)
    (distinct : IsDistinct bytes_eq (names_of catalog)) where
  -- a function with a plan
  pub function_named : (r : RoutineRecord) (tree : BoundExpr) →
      object_named name catalog ≡ Some (FunctionObject (function_of catalog r)) →
      FunctionFits catalog r → tree ≡ r.body →
      IsPlanned catalog (routines_of catalog name) r.head tree
  function_named r tree is fits same =
      let seen : expr_in (no_routine catalog) tree ≡ tree_of catalog r.body =
      ap (expr_in (no_routine catalog)) same ∙
      (views.outside_routines catalog distinct).expressions r.body tt fits.planned in
      record {
        stands = law.planned catalog name (function_of catalog r) distinct is ∙
            ap (λ (e : Expr). Returned r.head.parameters r.head.returns e) (sym seen);
        planned = ap planned_expr seen ∙ fits.planned;
      }

  -- a function without one
  pub interpreted_named : (f : InterpretedFunction) →
      object_named name catalog ≡ Some (InterpretedObject (interpreted_of f)) →
      CallsStandBefore catalog →
      routines_of catalog name ≡ function_view (routines_of catalog) name (interpreted_of f)
  interpreted_named f is before =
      law.seen catalog name (InterpretedObject (interpreted_of f)) distinct before is

  pub table_named : (t : RowType) → object_named name catalog ≡ Some (TableObject t) →
      GivesNull (routines_of catalog name)
  table_named t is = missing_null (routines_of catalog name)
      (law.table catalog name t distinct is)

  pub procedure_named : (p : Procedure) →
      object_named name catalog ≡ Some (ProcedureObject (procedure_of p)) →
      CallsStandBefore catalog → GivesNull (routines_of catalog name)
  procedure_named p is before = subst GivesNull
      (sym (law.seen catalog name (ProcedureObject (procedure_of p)) distinct before is))
      (record { parameters = refl; null = λ values w. refl })

  pub none_named : object_named name catalog ≡ None → GivesNull (routines_of catalog name)
  none_named is = missing_null (routines_of catalog name) (law.unknown catalog name is)

-- ---- as CALL asks

module _ (law : RoutinesByName) (catalog : Catalog) (name : List ℕ)
    (distinct : IsDistinct bytes_eq (names_of catalog)) where
  -- a procedure
  pub performs_procedure : (p : Procedure) →
      object_named name catalog ≡ Some (ProcedureObject (procedure_of p)) →
      CallsStandBefore catalog → IsProcedure catalog name p
  performs_procedure p is before =
      law.seen catalog name (ProcedureObject (procedure_of p)) distinct before is

  pub function_performs : (r : RoutineRecord) →
      object_named name catalog ≡ Some (FunctionObject (function_of catalog r)) →
      GivesNothing (routines_of catalog name)
  function_performs r is = subst GivesNothing
      (sym (law.planned catalog name (function_of catalog r) distinct is))
      (record { parameters = refl; nothing = λ values w. refl })

  pub interpreted_performs : (f : InterpretedFunction) →
      object_named name catalog ≡ Some (InterpretedObject (interpreted_of f)) →
      CallsStandBefore catalog → GivesNothing (routines_of catalog name)
  interpreted_performs f is before = subst GivesNothing
      (sym (law.seen catalog name (InterpretedObject (interpreted_of f)) distinct before is))
      (record { parameters = refl; nothing = λ values w. refl })

  pub table_performs : (t : RowType) → object_named name catalog ≡ Some (TableObject t) →
      GivesNothing (routines_of catalog name)
  table_performs t is = missing_nothing (routines_of catalog name)
      (law.table catalog name t distinct is)

  pub none_performs : object_named name catalog ≡ None →
      GivesNothing (routines_of catalog name)
  none_performs is = missing_nothing (routines_of catalog name) (law.unknown catalog name is)

-- That what has a plan over a catalog is the same tree by the views of the catalog's routines.
-- ISO/IEC 9075-2, 10.4 (routine invocation).
use Rattle.std.specs.Prelude.{◌≡◌, ℕ, true, false, List, [], Some, None}
use Rattle.std.specs.List.{IsDistinct}
use Rattle.std.specs.Str.{bytes_eq}
use Rattle.bound_trees.specs.declared.expr.BoundExpr.{BoundExpr}
use Rattle.bound_trees.specs.declared.query.BoundQuery.{BoundQuery}
use Rattle.rel_algebra.specs.Plain.{planned, planned_expr, planned_routine}
use Rattle.rel_algebra.specs.Tree.{Returned, Routine}
use Rattle.catalog_store.specs.declared.entry.RoutineRecord.{RoutineRecord}
use Rattle.catalog_store.specs.Catalog.{Catalog, names_of, routine_named}
use Rattle.catalog_store.specs.Entries.{function_of}
use Rattle.catalog_store.specs.View.{query_of, tree_of}
use Rattle.routine_views.specs.Views.{Known, Own, expr_in, query_in}
use Rattle.routine_views.specs.Routines.{inside, routines_of, with_modes}
use Rattle.viewing_laws.specs.Calls.{CalledNames, expr_calls, query_calls}
use Rattle.viewing_laws.specs.Standing.{is_called}

-- what stands around a tree that is in no routine
abbrev pub outside : (List ℕ → Routine) → Known
outside routines = record { routines = routines; own = None }

-- What has a plan over the catalog, and calls such names, is seen as its plain tree.
pub record SeenAsPlain (Such : CalledNames → Type 0) (catalog : Catalog) (k : Known) : Type 0 where
  pub expressions : (e : BoundExpr) → Such (expr_calls e) →
      planned_expr (tree_of catalog e) ≡ true → expr_in k e ≡ tree_of catalog e
  pub queries : (q : BoundQuery) → Such (query_calls q) →
      planned (query_of catalog q) ≡ true → query_in k q ≡ query_of catalog q

-- Outside of routines whatever has a plan is; in a routine, what doesn't call it; in a routine
-- without a plan, whatever has one, since it can't call that; and so the body of a function.
pub record PlannedViews : Type 0 where
  pub outside_routines : (catalog : Catalog) → IsDistinct bytes_eq (names_of catalog) →
      SeenAsPlain (λ names. Unit {0}) catalog (outside (routines_of catalog))
  pub in_routine : (catalog : Catalog) (own : Own) → IsDistinct bytes_eq (names_of catalog) →
      SeenAsPlain (λ names. is_called own.name names ≡ false) catalog
      (record { routines = routines_of catalog; own = Some own })
  pub beside : (catalog : Catalog) (own : Own) → IsDistinct bytes_eq (names_of catalog) →
      planned_routine (routine_named own.name catalog) ≡ false →
      SeenAsPlain (λ names. Unit {0}) catalog
      (record { routines = routines_of catalog; own = Some own })
  pub bodies : (catalog : Catalog) (name : List ℕ) (r : RoutineRecord) →
      IsDistinct bytes_eq (names_of catalog) → is_called name (expr_calls r.body) ≡ false →
      planned_expr (tree_of catalog r.body) ≡ true →
      Returned r.head.parameters r.head.returns
      (expr_in (inside (routines_of catalog) name (with_modes [] r.head.parameters)) r.body)
      ≡ (function_of catalog r).routine

-- What has a plan where blocks have plans is what the routines of the catalog run. ISO/IEC 9075-2,
-- 10.4 (routine invocation).
use Rattle.std.specs.Prelude.{◌≡◌, true}
use Rattle.std.specs.List.{IsDistinct}
use Rattle.std.specs.Str.{bytes_eq}
use Rattle.bound_trees.specs.declared.expr.BoundExpr.{BoundExpr}
use Rattle.bound_trees.specs.declared.query.BoundQuery.{BoundQuery}
use Rattle.rel_algebra.specs.Plain.{planned, planned_expr}
use Rattle.catalog_store.specs.Catalog.{names_of}
use Rattle.routine_views.specs.Routines.{routines_of}
use Rattle.routine_views.specs.Views.{expr_in, query_in}
use Rattle.viewing_laws.specs.Planned.{outside}
use Rattle.block_plans.specs.Callees.{Callees}
use Rattle.block_plans.specs.View.{expr_seen, query_seen}

-- Where the names of the catalog differ, what has a plan stands for the same tree in no routine.
pub record SeenAsRun : Type 0 where
  pub expressions : (k : Callees) (e : BoundExpr) → IsDistinct bytes_eq (names_of k.known) →
      planned_expr (expr_seen k e) ≡ true →
      expr_in (outside (routines_of k.known)) e ≡ expr_seen k e
  pub queries : (k : Callees) (q : BoundQuery) → IsDistinct bytes_eq (names_of k.known) →
      planned (query_seen k q) ≡ true →
      query_in (outside (routines_of k.known)) q ≡ query_seen k q

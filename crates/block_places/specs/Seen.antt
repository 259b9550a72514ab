-- That what has a plan where blocks have plans is the same tree by the views of the catalog's
-- routines. ISO/IEC 9075-2, 10.4 (routine invocation).
use Rattle.std.specs.Prelude.{◌≡◌, ℕ, true, false, List, Option, Some, None}
use Rattle.std.specs.List.{IsDistinct}
use Rattle.std.specs.Str.{bytes_eq}
use Rattle.bound_trees.specs.declared.expr.BoundExpr.{BoundExpr}
use Rattle.bound_trees.specs.declared.query.BoundQuery.{BoundQuery}
use Rattle.rel_algebra.specs.Plain.{planned, planned_expr, planned_routine}
use Rattle.catalog_store.specs.Catalog.{Catalog, names_of}
use Rattle.routine_views.specs.Views.{Known, Own, expr_in, query_in}
use Rattle.routine_views.specs.Routines.{routines_of}
use Rattle.block_plans.specs.Callees.{Callees, callee}
use Rattle.block_plans.specs.View.{expr_seen, query_seen}

-- what stands around a tree in the catalog: a routine, or none
abbrev pub around : Catalog → Option Own → Known
around known own = record { routines = routines_of known; own = own }

-- what a call of this name runs has no plan, with however many arguments
abbrev pub IsApart : Callees → List ℕ → Type 0
IsApart k name = (n : ℕ) → planned_routine (callee k name n) ≡ false

-- a routine around, if there is one, is such
abbrev pub StandsApart : Callees → Option Own → Type 0
StandsApart k None = Unit {0}
StandsApart k (Some own) = IsApart k own.name

-- What has a plan is seen in such a place as it is where blocks have plans: each call that it holds
-- is of what it runs.
pub record SeenInPlace : Type 0 where
  pub expressions : (k : Callees) (own : Option Own) → IsDistinct bytes_eq (names_of k.known) →
      StandsApart k own → (e : BoundExpr) → planned_expr (expr_seen k e) ≡ true →
      expr_in (around k.known own) e ≡ expr_seen k e
  pub queries : (k : Callees) (own : Option Own) → IsDistinct bytes_eq (names_of k.known) →
      StandsApart k own → (q : BoundQuery) → planned (query_seen k q) ≡ true →
      query_in (around k.known own) q ≡ query_seen k q

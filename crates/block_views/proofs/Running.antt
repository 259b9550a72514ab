-- What has a plan where blocks have plans is what the routines of the catalog run.
use Rattle.std.proofs.Common.{◌≡◌, ℕ, Bool, true, false, cond, ◌&&◌, List, length, Option, None}
use Rattle.std.proofs.Common.{Some, refl, sym, ap, subst, ◌∙◌}
use Rattle.std.specs.List.{IsDistinct}
use Rattle.std.specs.Str.{bytes_eq}
use Rattle.bound_trees.specs.declared.expr.BoundExpr.{BoundExpr, fold-BoundExpr}
use Rattle.bound_trees.specs.declared.expr.BoundExpr.TheOpen.{BoundExpr-F}
use Rattle.bound_trees.specs.declared.query.BoundQuery.{BoundQuery, fold-BoundQuery}
use Rattle.rel_algebra.specs.Plain.{as_many, planned, planned_all, planned_expr, planned_routine}
use Rattle.rel_algebra.specs.Tree.{Expr, Exprs, From, Query, Call, Routine, count}
use Rattle.catalog_store.specs.Catalog.{Catalog, Object, TableObject, FunctionObject}
use Rattle.catalog_store.specs.Catalog.{InterpretedObject, ProcedureObject, names_of, object_named}
use Rattle.catalog_store.specs.Catalog.{routine_named, routine_in}
use Rattle.catalog_store.specs.View.{Link, Grouping, Joining, exprs, item_step, query_step}
use Rattle.catalog_store.specs.View.{row_step, source_step, link_step, grouping_step, select_step}
use Rattle.routine_views.specs.Routines.{routines_of}
use Rattle.routine_views.specs.Views.{expr_node, expr_in, query_in}
use Rattle.viewing_laws.specs.Planned.{outside}
use Rattle.viewing_laws.proofs.Laws.{routines_by_name}
use Rattle.block_plans.specs.Callees.{Callees, callee, is_block}
use Rattle.block_plans.specs.View.{call_step, expr_seen, query_seen}
use Rattle.block_views.specs.Running.{SeenAsRun}
use Rattle.block_views.proofs.Agreeing.{AgreeWherePlanned, halves, expr-planned, query-planned}
use Rattle.block_views.proofs.Layers.{Calls, call_node, expr_by, query_by}

-- a function that is kept with a plan stands for the same by its view
planned_agree : (known : Catalog) → IsDistinct bytes_eq (names_of known) → (name : List ℕ) →
    planned_routine (routine_named name known) ≡ true →
    routines_of known name ≡ routine_named name known
planned_agree known d name h = by (object_named name known) refl h
  where
    by : (o : Option Object) → object_named name known ≡ o →
        planned_routine (routine_in o) ≡ true →
        routines_of known name ≡ routine_named name known
    by None q h = absurd cc
    by (Some (TableObject t)) q h = absurd cc
    by (Some (FunctionObject f)) q h =
        routines_by_name.planned known name f d q ∙ sym (ap routine_in q)
    by (Some (InterpretedObject f)) q h = absurd cc
    by (Some (ProcedureObject p)) q h = absurd cc

-- what a call runs that has a plan is the routine of its name
callee_agrees : (k : Callees) (name : List ℕ) (n : ℕ) → IsDistinct bytes_eq (names_of k.known) →
    planned_routine (callee k name n) ≡ true → routines_of k.known name ≡ callee k name n
callee_agrees k name n d h = by (is_block k name n) h
  where
    by : (b : Bool) →
        planned_routine (cond b (routines_of k.known name) (routine_named name k.known)) ≡ true →
        routines_of k.known name
        ≡ cond b (routines_of k.known name) (routine_named name k.known)
    by true h = refl
    by false h = planned_agree k.known d name h

-- ---- calls

-- as blocks have plans
abbrev seen_calls : Callees → Calls
seen_calls k name es = Call name (callee k name (length es)) (exprs es)

-- as the routines of the catalog run
abbrev run_calls : Callees → Calls
run_calls k name es = Call name (routines_of k.known name) (exprs es)

calls_agree : (k : Callees) → IsDistinct bytes_eq (names_of k.known) →
    AgreeWherePlanned (run_calls k) (seen_calls k)
calls_agree k d = record {
  arguments = λ name es h.
      let r = callee k name (length es) in
      let parts = halves (planned_routine r)
      (planned_all (exprs es) && as_many r (count (exprs es))) h in
      (halves (planned_all (exprs es)) (as_many r (count (exprs es))) parts.1).0;
  calls = λ name es h.
      let r = callee k name (length es) in
      let parts = halves (planned_routine r)
      (planned_all (exprs es) && as_many r (count (exprs es))) h in
      ap (λ q. Call name q (exprs es)) (callee_agrees k name (length es) d parts.0);
}

-- ---- both views

seen_step : (k : Callees) (x : BoundExpr-F Expr Joining Query Exprs From Link Grouping Query) →
    call_node (seen_calls k) x ≡ call_step k x
seen_step k (BoundExpr-F.Call name args) = refl
seen_step k _ = refl

run_step : (k : Callees) (x : BoundExpr-F Expr Joining Query Exprs From Link Grouping Query) →
    call_node (run_calls k) x ≡ expr_node (outside (routines_of k.known)) x
run_step k _ = refl

seen_expr : (k : Callees) (e : BoundExpr) → expr_by (seen_calls k) e ≡ expr_seen k e
seen_expr k e i = fold-BoundExpr Expr Joining Query Exprs From Link Grouping Query
    (λ x. seen_step k x i) item_step query_step row_step source_step link_step grouping_step
    select_step e

seen_query : (k : Callees) (q : BoundQuery) → query_by (seen_calls k) q ≡ query_seen k q
seen_query k q i = fold-BoundQuery Expr Joining Query Exprs From Link Grouping Query
    (λ x. seen_step k x i) item_step query_step row_step source_step link_step grouping_step
    select_step q

run_expr : (k : Callees) (e : BoundExpr) →
    expr_by (run_calls k) e ≡ expr_in (outside (routines_of k.known)) e
run_expr k e i = fold-BoundExpr Expr Joining Query Exprs From Link Grouping Query
    (λ x. run_step k x i) item_step query_step row_step source_step link_step grouping_step
    select_step e

run_query : (k : Callees) (q : BoundQuery) →
    query_by (run_calls k) q ≡ query_in (outside (routines_of k.known)) q
run_query k q i = fold-BoundQuery Expr Joining Query Exprs From Link Grouping Query
    (λ x. run_step k x i) item_step query_step row_step source_step link_step grouping_step
    select_step q

pub seen_as_run : SeenAsRun
seen_as_run = record {
  expressions = λ k e d h.
      sym (run_expr k e)
      ∙ expr-planned (run_calls k) (seen_calls k) (calls_agree k d) e
      (ap planned_expr (seen_expr k e) ∙ h) ∙ seen_expr k e;
  queries = λ k q d h.
      sym (run_query k q)
      ∙ query-planned (run_calls k) (seen_calls k) (calls_agree k d) q
      (ap planned (seen_query k q) ∙ h) ∙ seen_query k q;
}

-- What has a plan where blocks have plans is seen so from a place whose routine no call runs.
use Rattle.std.proofs.Common.{◌≡◌, ℕ, Bool, true, false, List, Option, None, Some, refl, sym, ap}
use Rattle.std.proofs.Common.{◌∙◌, ◌&&◌, cond, length}
use Rattle.std.specs.List.{IsDistinct}
use Rattle.std.specs.Str.{bytes_eq}
use Rattle.bound_trees.specs.declared.expr.BoundExpr.{BoundExpr, fold-BoundExpr}
use Rattle.bound_trees.specs.declared.expr.BoundExpr.TheOpen.{BoundExpr-F}
use Rattle.bound_trees.specs.declared.query.BoundQuery.{BoundQuery, fold-BoundQuery}
use Rattle.rel_algebra.specs.Plain.{as_many, planned, planned_all, planned_expr, planned_routine}
use Rattle.rel_algebra.specs.Tree.{Call, CallSelf, Expr, Exprs, From, Query, Routine, count}
use Rattle.catalog_store.specs.Catalog.{Catalog, Object, TableObject, FunctionObject}
use Rattle.catalog_store.specs.Catalog.{InterpretedObject, ProcedureObject, names_of}
use Rattle.catalog_store.specs.Catalog.{object_named, routine_named, routine_in}
use Rattle.catalog_store.specs.View.{Link, Grouping, Joining, exprs, item_step, query_step}
use Rattle.catalog_store.specs.View.{row_step, source_step, link_step, grouping_step, select_step}
use Rattle.catalog_store.proofs.Laws.{same_bytes}
use Rattle.routine_views.specs.Routines.{routines_of}
use Rattle.routine_views.specs.Views.{Known, Own, called, types_of, expr_node, expr_in, query_in}
use Rattle.viewing_laws.proofs.Laws.{routines_by_name}
use Rattle.block_plans.specs.Callees.{Callees, callee, is_block}
use Rattle.block_plans.specs.View.{call_step, expr_seen, query_seen}
use Rattle.block_views.proofs.Agreeing.{AgreeWherePlanned, halves, expr-planned, query-planned}
use Rattle.block_views.proofs.Layers.{Calls, call_node, expr_by, query_by}
use Rattle.block_places.specs.Seen.{SeenInPlace, StandsApart, around}

-- a function with a plan in the catalog stands for the same by its view
planned_agree : (known : Catalog) → IsDistinct bytes_eq (names_of known) → (name : List ℕ) →
    planned_routine (routine_named name known) ≡ true →
    routines_of known name ≡ routine_named name known
planned_agree known d name h = by (object_named name known) refl h
  where
    by : (o : Option Object) → object_named name known ≡ o →
        planned_routine (routine_in o) ≡ true → routines_of known name ≡ routine_named name known
    by None q h = absurd cc
    by (Some (TableObject t)) q h = absurd cc
    by (Some (FunctionObject f)) q h =
        routines_by_name.planned known name f d q ∙ sym (ap routine_in q)
    by (Some (InterpretedObject f)) q h = absurd cc
    by (Some (ProcedureObject p)) q h = absurd cc

-- what a call runs that has a plan is the routine of its name
runs_agree : (k : Callees) → IsDistinct bytes_eq (names_of k.known) → (name : List ℕ) (n : ℕ) →
    planned_routine (callee k name n) ≡ true → routines_of k.known name ≡ callee k name n
runs_agree k d name n h = by (is_block k name n) h
  where
    by : (b : Bool) →
        planned_routine (cond b (routines_of k.known name) (routine_named name k.known)) ≡ true →
        routines_of k.known name
        ≡ cond b (routines_of k.known name) (routine_named name k.known)
    by true h = refl
    by false h = planned_agree k.known d name h

-- ---- calls

-- as blocks have plans
abbrev seen_calls : Callees → Calls
seen_calls k name es = Call name (callee k name (length es)) (exprs es)

-- as a place knows them
abbrev place_calls : Known → Calls
place_calls k name es = called k name (exprs es)

-- a call of what has a plan is of what it runs
called_there : (k : Callees) (own : Option Own) → IsDistinct bytes_eq (names_of k.known) →
    StandsApart k own → (name : List ℕ) (n : ℕ) (args : Exprs) →
    planned_routine (callee k name n) ≡ true →
    called (around k.known own) name args ≡ Call name (callee k name n) args
called_there k None d apart name n args h =
    ap (λ (r : Routine). Call name r args) (runs_agree k d name n h)
called_there k (Some own) d apart name n args h = by (bytes_eq own.name name) refl
  where
    by : (b : Bool) → bytes_eq own.name name ≡ b →
        cond b (CallSelf (types_of own.parameters) args)
        (Call name (routines_of k.known name) args) ≡ Call name (callee k name n) args
    by true q =
        let never : false ≡ true = sym (apart n) ∙
        ap (λ (m : List ℕ). planned_routine (callee k m n)) (same_bytes own.name name q) ∙ h in cc
    by false q = ap (λ (r : Routine). Call name r args) (runs_agree k d name n h)

calls_agree : (k : Callees) (own : Option Own) → IsDistinct bytes_eq (names_of k.known) →
    StandsApart k own → AgreeWherePlanned (place_calls (around k.known own)) (seen_calls k)
calls_agree k own d apart = record {
  arguments = λ name es h.
      let r = callee k name (length es) in
      let parts = halves (planned_routine r)
      (planned_all (exprs es) && as_many r (count (exprs es))) h in
      (halves (planned_all (exprs es)) (as_many r (count (exprs es))) parts.1).0;
  calls = λ name es h.
      let r = callee k name (length es) in
      let parts = halves (planned_routine r)
      (planned_all (exprs es) && as_many r (count (exprs es))) h in
      called_there k own d apart name (length es) (exprs es) parts.0;
}

-- ---- both views

seen_step : (k : Callees) (x : BoundExpr-F Expr Joining Query Exprs From Link Grouping Query) →
    call_node (seen_calls k) x ≡ call_step k x
seen_step k (BoundExpr-F.Call name args) = refl
seen_step k _ = refl

place_step : (k : Known) (x : BoundExpr-F Expr Joining Query Exprs From Link Grouping Query) →
    call_node (place_calls k) x ≡ expr_node k x
place_step k _ = refl

seen_expr : (k : Callees) (e : BoundExpr) → expr_by (seen_calls k) e ≡ expr_seen k e
seen_expr k e i = fold-BoundExpr Expr Joining Query Exprs From Link Grouping Query
    (λ x. seen_step k x i) item_step query_step row_step source_step link_step grouping_step
    select_step e

seen_query : (k : Callees) (q : BoundQuery) → query_by (seen_calls k) q ≡ query_seen k q
seen_query k q i = fold-BoundQuery Expr Joining Query Exprs From Link Grouping Query
    (λ x. seen_step k x i) item_step query_step row_step source_step link_step grouping_step
    select_step q

place_expr : (k : Known) (e : BoundExpr) → expr_by (place_calls k) e ≡ expr_in k e
place_expr k e i = fold-BoundExpr Expr Joining Query Exprs From Link Grouping Query
    (λ x. place_step k x i) item_step query_step row_step source_step link_step grouping_step
    select_step e

place_query : (k : Known) (q : BoundQuery) → query_by (place_calls k) q ≡ query_in k q
place_query k q i = fold-BoundQuery Expr Joining Query Exprs From Link Grouping Query
    (λ x. place_step k x i) item_step query_step row_step source_step link_step grouping_step
    select_step q

pub seen_in_place : SeenInPlace
seen_in_place = record {
  expressions = λ k own d apart e h.
      sym (place_expr (around k.known own) e)
      ∙ expr-planned (place_calls (around k.known own)) (seen_calls k)
      (calls_agree k own d apart) e (ap planned_expr (seen_expr k e) ∙ h) ∙ seen_expr k e;
  queries = λ k own d apart q h.
      sym (place_query (around k.known own) q)
      ∙ query-planned (place_calls (around k.known own)) (seen_calls k)
      (calls_agree k own d apart) q (ap planned (seen_query k q) ∙ h) ∙ seen_query k q;
}

-- The trees of the worked rows: what they call, and what they stand for.
use Rattle.std.proofs.Common.{◌≡◌, ℕ, true, false, List, [], ◌∷◌, ◌++◌, sym, ap, ◌∙◌, codes}
use Rattle.sql_values.specs.declared.value.SqlType.TheVariants as type
use Rattle.bound_trees.specs.declared.expr.BoundExpr.{BoundExpr}
use Rattle.bound_trees.specs.declared.expr.BoundExpr.TheOpen.{BoundExpr-F, BoundQuery-F}
use Rattle.bound_trees.specs.declared.expr.BoundExpr.TheOpen.{BoundRow-F}
use Rattle.bound_trees.specs.declared.expr.BoundExpr.TheVariants as expr
use Rattle.bound_trees.specs.declared.expr.BoundExpr.TheVariants.{rolls-Variable, rolls-Call}
use Rattle.bound_trees.specs.declared.query.BoundQuery.TheVariants.{rolls-Values}
use Rattle.bound_trees.specs.declared.query.BoundRow.TheVariants as row
use Rattle.bound_trees.specs.declared.query.BoundRow.TheVariants.{rolls-Row}
use Rattle.bound_trees.specs.declared.statement.BoundArgument.TheVariants as argument
use Rattle.bound_trees.specs.declared.statement.BoundCall.{BoundCall}
use Rattle.bound_trees.specs.declared.statement.BoundStmt.TheOpen.{BoundStmt-F}
use Rattle.bound_trees.specs.declared.statement.BoundStmt.TheVariants.{rolls-Return}
use Rattle.bound_trees.specs.declared.statement.BoundStmt.TheVariants.{rolls-Call as rolls-call}
use Rattle.rel_algebra.specs.Tree as tree
use Rattle.rel_algebra.specs.Tree.{Expr, Exprs, Stmt}
use Rattle.catalog_store.specs.Catalog.{Catalog, routine_named}
use Rattle.catalog_store.specs.Uses.{joined, uses_in}
use Rattle.catalog_store.specs.Uses.{calls as calls_use}
use Rattle.catalog_store.specs.View.{tree_of, query_of}
use Rattle.catalog_store.proofs.Laws.{uses_in-Variable, uses_in-Call, uses_in_query-Values}
use Rattle.catalog_store.proofs.Laws.{uses_in_row-Row, tree_of-Variable, tree_of-Call}
use Rattle.catalog_store.proofs.Laws.{query_of-Values, row_of-Row}
use Rattle.routine_views.specs.Views.{Known, View, called, performed, expr_in, query_in, stmt_in}
use Rattle.routine_views.specs.Routines.{entry_view, inside, routines_of, with_modes}
use Rattle.viewing_laws.specs.Calls.{names_called, expr_calls, query_calls, statement_calls}
use Rattle.viewing_laws.specs.Examples.{call, f_of_v, g_of_v, values_f, body_g, body_p, one, of_p}
use Rattle.viewing_laws.specs.Examples.{tree_g, tree_p, function_g, procedure_p}
use Rattle.viewing_laws.proofs.Layers.{expr_in-at, query_in-at, row_in, row_in-at, stmt_in-at}
use Rattle.viewing_laws.proofs.Layers.{statement_calls-at}

-- ---- what is called

call-uses : (name : List ℕ) (e : BoundExpr) →
    uses_in (call name e) ≡ calls_use name 1 ∷ (uses_in e ++ [])
call-uses name e = uses_in-Call name (e ∷ [])

pub f-calls : expr_calls f_of_v ≡ codes "F" ∷ []
f-calls = ap names_called (call-uses (codes "F") (expr.Variable 0) ∙
    (λ i. calls_use (codes "F") 1 ∷ (uses_in-Variable 0 i ++ [])))

f-g-calls : expr_calls (call (codes "F") g_of_v) ≡ codes "F" ∷ codes "G" ∷ []
f-g-calls = ap names_called (call-uses (codes "F") g_of_v ∙
    (λ i. calls_use (codes "F") 1 ∷ ((call-uses (codes "G") (expr.Variable 0) ∙
    (λ j. calls_use (codes "G") 1 ∷ (uses_in-Variable 0 j ++ []))) i ++ [])))

pub g-body-calls : statement_calls body_g ≡ codes "F" ∷ []
g-body-calls = ap statement_calls (sym (rolls-Return f_of_v)) ∙
    statement_calls-at (BoundStmt-F.Return f_of_v) ∙ f-calls

-- the CALL in the body of P
abbrev call_p : BoundCall
call_p = record {
  procedure = codes "P";
  arguments = argument.Value (call (codes "F") g_of_v) ∷ [];
}

pub p-body-calls : statement_calls body_p ≡ codes "P" ∷ codes "F" ∷ codes "G" ∷ []
p-body-calls = ap statement_calls (sym (rolls-call call_p)) ∙
    statement_calls-at (BoundStmt-F.Call call_p) ∙ (λ i. codes "P" ∷ (f-g-calls i ++ []))

pub values-calls : query_calls values_f ≡ codes "F" ∷ []
values-calls = ap names_called (uses_in_query-Values (row.Row (f_of_v ∷ []) ∷ []) ∙
    (λ i. joined (uses_in_row-Row (f_of_v ∷ []) i ∷ [])) ∙
    (λ i. joined (joined ((call-uses (codes "F") (expr.Variable 0) ∙
    (λ j. calls_use (codes "F") 1 ∷ (uses_in-Variable 0 j ++ []))) i ∷ []) ∷ [])))

-- ---- views

module _ (k : Known) where
  variable-seen : (slot : ℕ) → expr_in k (expr.Variable slot) ≡ tree.Variable slot
  variable-seen slot = ap (expr_in k) (sym (rolls-Variable slot)) ∙
      expr_in-at k (BoundExpr-F.Variable slot)

  pub call-seen : (name : List ℕ) (e : BoundExpr) (x : Expr) → expr_in k e ≡ x →
      expr_in k (call name e) ≡ called k name (one x)
  call-seen name e x h = ap (expr_in k) (sym (rolls-Call name (e ∷ []))) ∙
      expr_in-at k (BoundExpr-F.Call name (e ∷ [])) ∙ (λ i. called k name (one (h i)))

  pub call-v-seen : (name : List ℕ) →
      expr_in k (call name (expr.Variable 0)) ≡ called k name (one (tree.Variable 0))
  call-v-seen name = call-seen name (expr.Variable 0) (tree.Variable 0) (variable-seen 0)

  pub values-seen : query_in k values_f ≡
      tree.Values (tree.MoreRows (one (called k (codes "F") (one (tree.Variable 0)))) tree.NoRow)
  values-seen = ap (query_in k) (sym (rolls-Values (row.Row (f_of_v ∷ []) ∷ []))) ∙
      query_in-at k (BoundQuery-F.Values (row.Row (f_of_v ∷ []) ∷ [])) ∙
      (λ i. tree.Values (tree.MoreRows ((ap (row_in k) (sym (rolls-Row (f_of_v ∷ []))) ∙
      row_in-at k (BoundRow-F.Row (f_of_v ∷ [])) ∙
      (λ j. one (call-v-seen (codes "F") j))) i) tree.NoRow))

  pub g-seen : stmt_in k body_g [] ≡
      tree.Return (called k (codes "F") (one (tree.Variable 0)))
  g-seen = ap (λ (v : View). v []) (ap (stmt_in k) (sym (rolls-Return f_of_v)) ∙
      stmt_in-at k (BoundStmt-F.Return f_of_v)) ∙ ap tree.Return (call-v-seen (codes "F"))

  pub p-seen : stmt_in k body_p [] ≡ performed k (codes "P")
      (tree.MoreValues (called k (codes "F")
      (one (called k (codes "G") (one (tree.Variable 0))))) tree.NoArgument)
  p-seen = ap (λ (v : View). v []) (ap (stmt_in k) (sym (rolls-call call_p)) ∙
      stmt_in-at k (BoundStmt-F.Call call_p)) ∙
      (λ i. performed k (codes "P") (tree.MoreValues
      (call-seen (codes "F") g_of_v (called k (codes "G") (one (tree.Variable 0)))
      (call-v-seen (codes "G")) i) tree.NoArgument))

-- ---- plain trees of the catalog

pub call-plain : (c : Catalog) (name : List ℕ) →
    tree_of c (call name (expr.Variable 0)) ≡
    tree.Call name (routine_named name c) (one (tree.Variable 0))
call-plain c name = tree_of-Call c name (expr.Variable 0 ∷ []) ∙
    (λ i. tree.Call name (routine_named name c) (one (tree_of-Variable c 0 i)))

pub values-plain : (c : Catalog) → query_of c values_f ≡
    tree.Values (tree.MoreRows (one (tree.Call (codes "F") (routine_named (codes "F") c)
    (one (tree.Variable 0)))) tree.NoRow)
values-plain c = query_of-Values c (row.Row (f_of_v ∷ []) ∷ []) ∙
    (λ i. tree.Values (tree.MoreRows ((row_of-Row c (f_of_v ∷ []) ∙
    (λ j. one (call-plain c (codes "F") j))) i) tree.NoRow))

-- ---- routines

-- G and P over a catalog
pub g-row : (c : Catalog) → entry_view (routines_of c) (codes "G") function_g.object ≡
    tree_g (routines_of c (codes "F"))
g-row c = ap (tree.Function false (type.Integer ∷ []) type.Integer true)
    (g-seen (inside (routines_of c) (codes "G") (with_modes [] (type.Integer ∷ []))))

pub p-row : (c : Catalog) → entry_view (routines_of c) (codes "P") procedure_p.object ≡
    tree_p (routines_of c (codes "F")) (routines_of c (codes "G"))
p-row c = ap (tree.Procedure true of_p) (p-seen (inside (routines_of c) (codes "P") of_p))

-- The worked rows, from the laws.
use Rattle.std.proofs.Common.{◌≡◌, ℕ, pos, List, [], ◌∷◌, map, length, Option, Some, sym}
use Rattle.std.proofs.Common.{refl, ap, ◌∙◌, true}
use Rattle.sql_values.specs.declared.value.Value.{Value}
use Rattle.sql_values.specs.declared.value.Value.TheVariants.{Int, Null as NullValue}
use Rattle.row_types.specs.declared.sort_key.SortKey.{SortKey}
use Rattle.bound_trees.specs.declared.expr.BoundExpr.TheOpen.{BoundExpr-F, BoundQuery-F, BoundRow-F}
use Rattle.bound_trees.specs.declared.expr.BoundExpr.TheVariants as bound
use Rattle.bound_trees.specs.declared.expr.BoundExpr.TheVariants.{rolls-Literal}
use Rattle.bound_trees.specs.declared.query.BoundQuery.{BoundQuery}
use Rattle.bound_trees.specs.declared.query.BoundQuery.TheVariants as query
use Rattle.bound_trees.specs.declared.query.BoundQuery.TheVariants.{rolls-Values, rolls-Ordered}
use Rattle.bound_trees.specs.declared.query.BoundRow.{BoundRow}
use Rattle.bound_trees.specs.declared.query.BoundRow.TheVariants as row
use Rattle.bound_trees.specs.declared.query.BoundRow.TheVariants.{rolls-Row}
use Rattle.bind_kinds.specs.declared.kind.Kind.{Kind}
use Rattle.bind_kinds.specs.declared.kind.Kind.TheVariants.{Integer, Null}
use Rattle.rel_algebra.specs.Tree.{Query, Values, Ordered, Exprs}
use Rattle.rel_algebra.specs.Plain.{planned}
use Rattle.catalog_store.specs.View.{query_of, exprs, rows, row_of, tree_of}
use Rattle.catalog_store.proofs.Laws.{query_of-Values, query_of-Ordered, row_of-Row}
use Rattle.catalog_store.proofs.Laws.{tree_of-Literal}
use Rattle.typing_trees.specs.Around.{then, only_if}
use Rattle.typing_trees.specs.Kinds.{kind_of_value}
use Rattle.typing_trees.specs.Queries.{ExprKind, QueryKinds, kind_of, kinds_of_query, exprs_of_row}
use Rattle.typing_trees.specs.Queries.{kinds_of_rows, keys_within}
use Rattle.typing_plans.specs.Examples.{alone, one_row, by_column, PlansWorked}
use Rattle.typing_plans.proofs.Layers.{kind_of-at, kinds_of_query-at, exprs_of_row-at}
use Rattle.typing_plans.proofs.Laws.{typed_plans_fit, typed_plans_kinded}

-- ---- kinds

literal : (v : Value) → kind_of (bound.Literal v) ≡ (λ a. Some (kind_of_value v))
literal v = ap kind_of (sym (rolls-Literal v)) ∙ kind_of-at (BoundExpr-F.Literal v)

listed : (rs : List BoundRow) →
    kinds_of_query (query.Values rs) ≡ (λ a. kinds_of_rows a (map exprs_of_row rs))
listed rs = ap kinds_of_query (sym (rolls-Values rs)) ∙ kinds_of_query-at (BoundQuery-F.Values rs)

ordered : (q : BoundQuery) (keys : List SortKey) → kinds_of_query (query.Ordered q keys) ≡
    (λ a. then (kinds_of_query q a) (λ ks. only_if (keys_within (length ks) keys) (Some ks)))
ordered q keys = ap kinds_of_query (sym (rolls-Ordered q keys)) ∙
    kinds_of_query-at (BoundQuery-F.Ordered q keys)

cells : (v w : Value) → exprs_of_row (row.Row (bound.Literal v ∷ bound.Literal w ∷ [])) ≡
    (λ a. Some (kind_of_value v)) ∷ (λ a. Some (kind_of_value w)) ∷ []
cells v w = ap exprs_of_row (sym (rolls-Row (bound.Literal v ∷ bound.Literal w ∷ []))) ∙
    exprs_of_row-at (BoundRow-F.Row (bound.Literal v ∷ bound.Literal w ∷ [])) ∙
    (λ i. literal v i ∷ literal w i ∷ [])

one_row_kinds : kinds_of_query one_row alone ≡ Some (Integer ∷ Null ∷ [])
one_row_kinds = ap (λ (f : QueryKinds). f alone)
    (listed (row.Row (bound.Literal (Int (pos 7)) ∷ bound.Literal NullValue ∷ []) ∷ [])) ∙
    ap (λ (es : List ExprKind). kinds_of_rows alone (es ∷ [])) (cells (Int (pos 7)) NullValue)

by_place : (n : ℕ) → kinds_of_query (query.Ordered one_row (by_column n)) alone ≡
    only_if (keys_within 2 (by_column n)) (Some (Integer ∷ Null ∷ []))
by_place n = ap (λ (f : QueryKinds). f alone) (ordered one_row (by_column n)) ∙
    ap (λ (o : Option (List Kind)). then o (λ ks. only_if (keys_within (length ks) (by_column n))
    (Some ks))) one_row_kinds

no_row_kinds : kinds_of_query (query.Values []) alone ≡ Some []
no_row_kinds = ap (λ (f : QueryKinds). f alone) (listed [])

-- ---- plans

one_row_planned : planned (query_of [] (query.Ordered one_row (by_column 1))) ≡ true
one_row_planned =
    let one = bound.Literal (Int (pos 7)) in let none = bound.Literal NullValue in
    let cells : row_of [] (row.Row (one ∷ none ∷ [])) ≡
    exprs (tree_of [] one ∷ tree_of [] none ∷ []) = row_of-Row [] (one ∷ none ∷ []) in
    ap planned (query_of-Ordered [] one_row (by_column 1) ∙
    ap (λ (q : Query). Ordered q (by_column 1))
    (query_of-Values [] (row.Row (one ∷ none ∷ []) ∷ []) ∙
    ap (λ (es : Exprs). Values (rows (es ∷ []))) (cells ∙
    (λ i. exprs (tree_of-Literal [] (Int (pos 7)) i ∷ tree_of-Literal [] NullValue i ∷ [])))))

pub plans_worked : PlansWorked
plans_worked = record {
  typed = by_place 1;
  fits = typed_plans_fit [] (query.Ordered one_row (by_column 1)) alone (Integer ∷ Null ∷ []) 0 tt
      (λ name t h. absurd cc) (by_place 1) one_row_planned;
  kinded = typed_plans_kinded [] (query.Ordered one_row (by_column 1)) alone (Integer ∷ Null ∷ [])
      [] tt (λ name t h. absurd cc) (λ name h f e. absurd cc) refl tt (by_place 1) one_row_planned;
  beyond = by_place 2;
  no_row = no_row_kinds;
  no_row_fits = typed_plans_fit [] (query.Values []) alone [] 0 tt (λ name t h. absurd cc)
      no_row_kinds (ap planned (query_of-Values [] []));
}

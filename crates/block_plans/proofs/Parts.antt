-- Which plain trees bound trees of each kind stand for where blocks have plans.
use Rattle.std.proofs.Common.{◌≡◌, ℕ, List, [], ◌∷◌, map, length, Option, None, Some}
use Rattle.std.proofs.Common.{sym, ap, ◌∙◌}
use Rattle.std.proofs.lemmas.List.{length-map}
use Rattle.std.specs.Option.{option_map}
use Rattle.sql_values.specs.declared.value.Value.{Value}
use Rattle.row_types.specs.declared.sort_key.SortKey.{SortKey}
use Rattle.bound_trees.specs.declared.expr.BoundOperation.{BoundOperation}
use Rattle.bound_trees.specs.declared.expr.BoundExpr.{BoundExpr}
use Rattle.bound_trees.specs.declared.expr.BoundExpr.TheVariants as expr
use Rattle.bound_trees.specs.declared.expr.BoundExpr.TheVariants.{rolls-Literal, rolls-Column}
use Rattle.bound_trees.specs.declared.expr.BoundExpr.TheVariants.{rolls-Variable, rolls-Operation}
use Rattle.bound_trees.specs.declared.expr.BoundExpr.TheVariants.{rolls-Chain, rolls-Call}
use Rattle.bound_trees.specs.declared.expr.BoundExpr.TheVariants.{rolls-Single, rolls-Exists}
use Rattle.bound_trees.specs.declared.expr.BoundExpr.TheVariants.{rolls-In}
use Rattle.bound_trees.specs.declared.expr.BoundExpr.TheOpen.{BoundExpr-F, BoundFromItem-F}
use Rattle.bound_trees.specs.declared.expr.BoundExpr.TheOpen.{BoundQuery-F, BoundRow-F}
use Rattle.bound_trees.specs.declared.expr.BoundExpr.TheOpen.{BoundSource-F}
use Rattle.bound_trees.specs.declared.expr.BoundExpr.TheViews.{roll-out-BoundGrouping}
use Rattle.bound_trees.specs.declared.expr.BoundExpr.TheViews.{roll-out-BoundSelect}
use Rattle.bound_trees.specs.declared.expr.BoundLink.{BoundLink}
use Rattle.bound_trees.specs.declared.query.BoundRow.{BoundRow}
use Rattle.bound_trees.specs.declared.query.BoundRow.TheVariants as row
use Rattle.bound_trees.specs.declared.query.BoundRow.TheVariants.{rolls-Row}
use Rattle.bound_trees.specs.declared.query.BoundQuery.{BoundQuery}
use Rattle.bound_trees.specs.declared.query.BoundQuery.TheVariants as query
use Rattle.bound_trees.specs.declared.query.BoundQuery.TheVariants.{rolls-Select, rolls-Values}
use Rattle.bound_trees.specs.declared.query.BoundQuery.TheVariants.{rolls-Ordered}
use Rattle.bound_trees.specs.declared.query.BoundGrouping.{BoundGrouping, out-BoundGrouping}
use Rattle.bound_trees.specs.declared.query.BoundSelect.{BoundSelect, roll-BoundSelect}
use Rattle.bound_trees.specs.declared.query.BoundSelect.{out-BoundSelect}
use Rattle.bound_trees.specs.declared.query.BoundSource.{BoundSource}
use Rattle.bound_trees.specs.declared.query.BoundSource.TheVariants as source
use Rattle.bound_trees.specs.declared.query.BoundSource.TheVariants.{rolls-Table, rolls-Derived}
use Rattle.bound_trees.specs.declared.query.BoundFromItem.{BoundFromItem}
use Rattle.bound_trees.specs.declared.query.BoundFromItem.TheVariants as item
use Rattle.bound_trees.specs.declared.query.BoundFromItem.TheVariants.{rolls-Comma, rolls-Cross}
use Rattle.bound_trees.specs.declared.query.BoundFromItem.TheVariants.{rolls-Inner, rolls-Left}
use Rattle.rel_algebra.specs.Tree.{Literal, Column, Variable, Chain, Call, Single, Exists, In}
use Rattle.rel_algebra.specs.Tree.{Table, Derived, Values, Ordered}
use Rattle.rel_algebra.specs.Tree.{Select, Grouped}
use Rattle.catalog_store.specs.View.{after_comma, crossing, matching, matching_or_nulls, operated}
use Rattle.catalog_store.specs.View.{from_of, selected}
use Rattle.block_plans.specs.Callees.{Callees, callee}
use Rattle.block_plans.specs.View.{exprs_seen, links_seen, rows_seen, expr_seen, item_seen}
use Rattle.block_plans.specs.View.{query_seen, row_seen, source_seen, grouping_seen, link_seen}
use Rattle.block_plans.specs.View.{select_seen}
use Rattle.block_plans.proofs.Layers.{expr_seen-at, item_seen-at, query_seen-at, row_seen-at}
use Rattle.block_plans.proofs.Layers.{source_seen-at, grouping_seen-at, link_seen-at}
use Rattle.block_plans.proofs.Layers.{select_seen-at}

module _ (k : Callees) where
  pub expr_seen-Literal : (v : Value) → expr_seen k (expr.Literal v) ≡ Literal v
  expr_seen-Literal v = ap (expr_seen k) (sym (rolls-Literal v)) ∙ expr_seen-at k
      (BoundExpr-F.Literal v)

  pub expr_seen-Column : (level : ℕ) (i : ℕ) → expr_seen k (expr.Column level i) ≡ Column level i
  expr_seen-Column level i = ap (expr_seen k) (sym (rolls-Column level i)) ∙
      expr_seen-at k (BoundExpr-F.Column level i)

  pub expr_seen-Variable : (i : ℕ) → expr_seen k (expr.Variable i) ≡ Variable i
  expr_seen-Variable i = ap (expr_seen k) (sym (rolls-Variable i)) ∙
      expr_seen-at k (BoundExpr-F.Variable i)

  pub expr_seen-Operation : (word : BoundOperation) (es : List BoundExpr) →
      expr_seen k (expr.Operation word es) ≡ operated word (map (expr_seen k) es)
  expr_seen-Operation word es = ap (expr_seen k) (sym (rolls-Operation word es)) ∙
      expr_seen-at k (BoundExpr-F.Operation word es)

  pub expr_seen-Chain : (e : BoundExpr) (ls : List BoundLink) →
      expr_seen k (expr.Chain e ls) ≡ Chain (expr_seen k e) (links_seen k ls)
  expr_seen-Chain e ls = ap (expr_seen k) (sym (rolls-Chain e ls)) ∙
      expr_seen-at k (BoundExpr-F.Chain e ls)

  pub expr_seen-Call : (name : List ℕ) (es : List BoundExpr) →
      expr_seen k (expr.Call name es) ≡ Call name (callee k name (length es)) (exprs_seen k es)
  expr_seen-Call name es = ap (expr_seen k) (sym (rolls-Call name es)) ∙
      expr_seen-at k (BoundExpr-F.Call name es)
      ∙ ap (λ n. Call name (callee k name n) (exprs_seen k es)) (length-map es (expr_seen k))

  pub expr_seen-Single : (q : BoundQuery) → expr_seen k (expr.Single q) ≡ Single (query_seen k q)
  expr_seen-Single q = ap (expr_seen k) (sym (rolls-Single q)) ∙ expr_seen-at k
      (BoundExpr-F.Single q)

  pub expr_seen-Exists : (q : BoundQuery) → expr_seen k (expr.Exists q) ≡ Exists (query_seen k q)
  expr_seen-Exists q = ap (expr_seen k) (sym (rolls-Exists q)) ∙ expr_seen-at k
      (BoundExpr-F.Exists q)

  pub expr_seen-In : (e : BoundExpr) (q : BoundQuery) →
      expr_seen k (expr.In e q) ≡ In (expr_seen k e) (query_seen k q)
  expr_seen-In e q = ap (expr_seen k) (sym (rolls-In e q)) ∙ expr_seen-at k (BoundExpr-F.In e q)

  pub item_seen-Comma : (f : BoundSource) → item_seen k (item.Comma f) ≡ after_comma (source_seen k
      f)
  item_seen-Comma f = ap (item_seen k) (sym (rolls-Comma f)) ∙ item_seen-at k
      (BoundFromItem-F.Comma f)

  pub item_seen-Cross : (f : BoundSource) → item_seen k (item.Cross f) ≡ crossing (source_seen k f)
  item_seen-Cross f = ap (item_seen k) (sym (rolls-Cross f)) ∙ item_seen-at k
      (BoundFromItem-F.Cross f)

  pub item_seen-Inner : (f : BoundSource) (on : List BoundExpr) →
      item_seen k (item.Inner f on) ≡ matching (source_seen k f) (exprs_seen k on)
  item_seen-Inner f on = ap (item_seen k) (sym (rolls-Inner f on)) ∙
      item_seen-at k (BoundFromItem-F.Inner f on)

  pub item_seen-Left : (f : BoundSource) (on : List BoundExpr) →
      item_seen k (item.Left f on) ≡ matching_or_nulls (source_seen k f) (exprs_seen k on)
  item_seen-Left f on = ap (item_seen k) (sym (rolls-Left f on)) ∙
      item_seen-at k (BoundFromItem-F.Left f on)

  pub query_seen-Select : (s : BoundSelect) → query_seen k (query.Select s) ≡ select_seen k s
  query_seen-Select s = ap (query_seen k) (sym (rolls-Select s)) ∙ query_seen-at k
      (BoundQuery-F.Select s)

  pub query_seen-Values : (rs : List BoundRow) → query_seen k (query.Values rs) ≡ Values (rows_seen
      k rs)
  query_seen-Values rs = ap (query_seen k) (sym (rolls-Values rs)) ∙
      query_seen-at k (BoundQuery-F.Values rs)

  pub query_seen-Ordered : (q : BoundQuery) (keys : List SortKey) →
      query_seen k (query.Ordered q keys) ≡ Ordered (query_seen k q) keys
  query_seen-Ordered q keys = ap (query_seen k) (sym (rolls-Ordered q keys)) ∙
      query_seen-at k (BoundQuery-F.Ordered q keys)

  pub row_seen-Row : (es : List BoundExpr) → row_seen k (row.Row es) ≡ exprs_seen k es
  row_seen-Row es = ap (row_seen k) (sym (rolls-Row es)) ∙ row_seen-at k (BoundRow-F.Row es)

  pub source_seen-Table : (name : List ℕ) → source_seen k (source.Table name) ≡ Table name
  source_seen-Table name = ap (source_seen k) (sym (rolls-Table name)) ∙
      source_seen-at k (BoundSource-F.Table name)

  pub source_seen-Derived : (q : BoundQuery) → source_seen k (source.Derived q) ≡ Derived
      (query_seen k q)
  source_seen-Derived q = ap (source_seen k) (sym (rolls-Derived q)) ∙
      source_seen-at k (BoundSource-F.Derived q)

  pub link_seen-parts : (l : BoundLink) → link_seen k l ≡ record {
    operator = l.operator;
    operand =
        expr_seen k l.operand;
  }
  link_seen-parts l = link_seen-at k (record { operator = l.operator; operand = l.operand })

  pub grouping_seen-parts : (g : BoundGrouping) → grouping_seen k g
      ≡ record {
        keys = (out-BoundGrouping g).keys;
        parts = exprs_seen k (out-BoundGrouping g).parts;
        aggregates = (out-BoundGrouping g).aggregates;
        having =
            exprs_seen k (out-BoundGrouping g).having;
      }
  grouping_seen-parts g = ap (grouping_seen k) (sym (roll-out-BoundGrouping g)) ∙
      grouping_seen-at k (out-BoundGrouping g)

  -- a select that is made of these parts
  pub select_seen-made : (items : List BoundExpr) (from : List BoundFromItem)
      (conjuncts : List BoundExpr) (grouping : Option BoundGrouping)
      → select_seen k (roll-BoundSelect (record {
        items = items;
        from = from;
        conjuncts = conjuncts;
        grouping = grouping;
      }))
      ≡ selected (option_map (grouping_seen k) grouping) (exprs_seen k items)
      (from_of (map (item_seen k) from)) (exprs_seen k conjuncts)
  select_seen-made items from conjuncts None = select_seen-at k
      (record { items = items; from = from; conjuncts = conjuncts; grouping = None })
  select_seen-made items from conjuncts (Some g) =
      select_seen-at k (record {
        items = items;
        from = from;
        conjuncts = conjuncts;
        grouping =
            Some g;
      })

  pub select_seen-parts : (s : BoundSelect) → select_seen k s
      ≡ selected (option_map (grouping_seen k) (out-BoundSelect s).grouping)
      (exprs_seen k (out-BoundSelect s).items)
      (from_of (map (item_seen k) (out-BoundSelect s).from))
      (exprs_seen k (out-BoundSelect s).conjuncts)
  select_seen-parts s =
      ap (select_seen k) (sym (roll-out-BoundSelect s)) ∙ select_seen-made (out-BoundSelect s).items
      (out-BoundSelect s).from (out-BoundSelect s).conjuncts (out-BoundSelect s).grouping

-- ---- selects

pub select_seen-grouped : (k : Callees) (s : BoundSelect) (g : BoundGrouping) →
    (out-BoundSelect s).grouping ≡ Some g →
    select_seen k s ≡ Grouped (from_of (map (item_seen k) (out-BoundSelect s).from))
    (exprs_seen k (out-BoundSelect s).conjuncts) g.keys (exprs_seen k g.parts) g.aggregates
    (exprs_seen k g.having) (exprs_seen k (out-BoundSelect s).items)
select_seen-grouped k s g h =
    select_seen-parts k s ∙ ap (λ (o : Option BoundGrouping). selected (option_map (grouping_seen k)
    o)
    (exprs_seen k (out-BoundSelect s).items) (from_of (map (item_seen k) (out-BoundSelect s).from))
    (exprs_seen k (out-BoundSelect s).conjuncts)) h
    ∙ ap (λ q. Grouped (from_of (map (item_seen k) (out-BoundSelect s).from))
    (exprs_seen k (out-BoundSelect s).conjuncts) q.keys q.parts q.aggregates q.having
    (exprs_seen k (out-BoundSelect s).items)) (grouping_seen-parts k g)

pub select_seen-ungrouped : (k : Callees) (s : BoundSelect) → (out-BoundSelect s).grouping ≡ None →
    select_seen k s ≡ Select (exprs_seen k (out-BoundSelect s).items)
    (from_of (map (item_seen k) (out-BoundSelect s).from))
    (exprs_seen k (out-BoundSelect s).conjuncts)
select_seen-ungrouped k s h =
    select_seen-parts k s ∙ ap (λ (o : Option BoundGrouping). selected (option_map (grouping_seen k)
    o)
    (exprs_seen k (out-BoundSelect s).items) (from_of (map (item_seen k) (out-BoundSelect s).from))
    (exprs_seen k (out-BoundSelect s).conjuncts)) h

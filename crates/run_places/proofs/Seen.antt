-- Which plain trees bound trees of each kind stand for, where calls are of the routines that are
-- known.
use Rattle.std.proofs.Common.{◌≡◌}
use Rattle.bound_trees.specs.declared.expr.BoundExpr.{BoundExpr, roll-BoundExpr}
use Rattle.bound_trees.specs.declared.expr.BoundLink.{BoundLink, roll-BoundLink}
use Rattle.bound_trees.specs.declared.query.BoundFromItem.{BoundFromItem, roll-BoundFromItem}
use Rattle.bound_trees.specs.declared.query.BoundGrouping.{BoundGrouping, roll-BoundGrouping}
use Rattle.bound_trees.specs.declared.query.BoundQuery.{BoundQuery, roll-BoundQuery}
use Rattle.bound_trees.specs.declared.query.BoundRow.{BoundRow, roll-BoundRow}
use Rattle.bound_trees.specs.declared.query.BoundSelect.{BoundSelect, roll-BoundSelect}
use Rattle.bound_trees.specs.declared.query.BoundSource.{BoundSource, roll-BoundSource}
use Rattle.bound_trees.specs.declared.expr.BoundExpr.TheOpen.{BoundExpr-F, BoundFromItem-F}
use Rattle.bound_trees.specs.declared.expr.BoundExpr.TheOpen.{BoundQuery-F, BoundRow-F}
use Rattle.bound_trees.specs.declared.expr.BoundExpr.TheOpen.{BoundSource-F, BoundLink-F}
use Rattle.bound_trees.specs.declared.expr.BoundExpr.TheOpen.{BoundGrouping-F, BoundSelect-F}
use Rattle.bound_trees.specs.declared.expr.BoundExpr.TheFolds.{map-BoundExpr, map-BoundFromItem}
use Rattle.bound_trees.specs.declared.expr.BoundExpr.TheFolds.{map-BoundQuery, map-BoundRow}
use Rattle.bound_trees.specs.declared.expr.BoundExpr.TheFolds.{map-BoundSource, map-BoundLink}
use Rattle.bound_trees.specs.declared.expr.BoundExpr.TheFolds.{map-BoundGrouping, map-BoundSelect}
use Rattle.bound_trees.specs.declared.expr.BoundExpr.TheFolds.{fold-roll-BoundExpr}
use Rattle.bound_trees.specs.declared.expr.BoundExpr.TheFolds.{fold-roll-BoundFromItem}
use Rattle.bound_trees.specs.declared.expr.BoundExpr.TheFolds.{fold-roll-BoundQuery}
use Rattle.bound_trees.specs.declared.expr.BoundExpr.TheFolds.{fold-roll-BoundRow}
use Rattle.bound_trees.specs.declared.expr.BoundExpr.TheFolds.{fold-roll-BoundSource}
use Rattle.bound_trees.specs.declared.expr.BoundExpr.TheFolds.{fold-roll-BoundLink}
use Rattle.bound_trees.specs.declared.expr.BoundExpr.TheFolds.{fold-roll-BoundGrouping}
use Rattle.bound_trees.specs.declared.expr.BoundExpr.TheFolds.{fold-roll-BoundSelect}
use Rattle.rel_algebra.specs.Tree.{Expr, Exprs, From, Query}
use Rattle.std.proofs.Common.{◌≡◌, ℕ, List, map, Option, None, Some, sym, ap}
use Rattle.std.proofs.Common.{◌∙◌}
use Rattle.std.specs.Option.{option_map}
use Rattle.sql_values.specs.declared.value.Value.{Value}
use Rattle.row_types.specs.declared.sort_key.SortKey.{SortKey}
use Rattle.bound_trees.specs.declared.expr.BoundOperation.{BoundOperation}
use Rattle.bound_trees.specs.declared.expr.BoundExpr.{BoundExpr}
use Rattle.bound_trees.specs.declared.expr.BoundExpr.TheVariants as expr
use Rattle.bound_trees.specs.declared.expr.BoundExpr.TheVariants.{rolls-Literal, rolls-Column}
use Rattle.bound_trees.specs.declared.expr.BoundExpr.TheVariants.{rolls-Variable, rolls-Operation}
use Rattle.bound_trees.specs.declared.expr.BoundExpr.TheVariants.{rolls-Chain, rolls-Call}
use Rattle.bound_trees.specs.declared.expr.BoundExpr.TheVariants.{rolls-Single, rolls-Exists}
use Rattle.bound_trees.specs.declared.expr.BoundExpr.TheVariants.{rolls-In}
use Rattle.bound_trees.specs.declared.expr.BoundExpr.TheOpen.{BoundSource-F}
use Rattle.bound_trees.specs.declared.expr.BoundExpr.TheViews.{roll-out-BoundGrouping}
use Rattle.bound_trees.specs.declared.expr.BoundExpr.TheViews.{roll-out-BoundSelect}
use Rattle.bound_trees.specs.declared.expr.BoundLink.{BoundLink}
use Rattle.bound_trees.specs.declared.query.BoundRow.{BoundRow}
use Rattle.bound_trees.specs.declared.query.BoundRow.TheVariants as row
use Rattle.bound_trees.specs.declared.query.BoundRow.TheVariants.{rolls-Row}
use Rattle.bound_trees.specs.declared.query.BoundQuery.{BoundQuery}
use Rattle.bound_trees.specs.declared.query.BoundQuery.TheVariants as query
use Rattle.bound_trees.specs.declared.query.BoundQuery.TheVariants.{rolls-Select, rolls-Values}
use Rattle.bound_trees.specs.declared.query.BoundQuery.TheVariants.{rolls-Ordered}
use Rattle.bound_trees.specs.declared.query.BoundGrouping.{BoundGrouping, out-BoundGrouping}
use Rattle.bound_trees.specs.declared.query.BoundSelect.{out-BoundSelect}
use Rattle.bound_trees.specs.declared.query.BoundSource.{BoundSource}
use Rattle.bound_trees.specs.declared.query.BoundSource.TheVariants as source
use Rattle.bound_trees.specs.declared.query.BoundSource.TheVariants.{rolls-Table, rolls-Derived}
use Rattle.bound_trees.specs.declared.query.BoundFromItem.{BoundFromItem}
use Rattle.bound_trees.specs.declared.query.BoundFromItem.TheVariants as item
use Rattle.bound_trees.specs.declared.query.BoundFromItem.TheVariants.{rolls-Comma, rolls-Cross}
use Rattle.bound_trees.specs.declared.query.BoundFromItem.TheVariants.{rolls-Inner, rolls-Left}
use Rattle.rel_algebra.specs.Tree.{Literal, Column, Variable, Chain, Single, Exists, In}
use Rattle.rel_algebra.specs.Tree.{Table, Derived, Values, Ordered}
use Rattle.catalog_store.specs.View.{Joining, Grouping, Link, item_step, query_step, row_step}
use Rattle.catalog_store.specs.View.{source_step, link_step, grouping_step, select_step}
use Rattle.catalog_store.specs.View.{after_comma}
use Rattle.catalog_store.specs.View.{crossing, matching, matching_or_nulls, operated, from_of}
use Rattle.catalog_store.specs.View.{selected}
use Rattle.routine_views.specs.Views.{Known, expr_node, expr_in, query_in, called}
use Rattle.run_places.specs.Views.{item_in, row_in, source_in, grouping_in, link_in, select_in}
use Rattle.run_places.specs.Views.{exprs_in, links_in, rows_in}

abbrev pub ExprLayer : Type 0
ExprLayer = BoundExpr-F BoundExpr BoundFromItem BoundQuery BoundRow BoundSource BoundLink
    BoundGrouping BoundSelect

abbrev pub ItemLayer : Type 0
ItemLayer = BoundFromItem-F BoundExpr BoundFromItem BoundQuery BoundRow BoundSource BoundLink
    BoundGrouping BoundSelect

abbrev pub QueryLayer : Type 0
QueryLayer = BoundQuery-F BoundExpr BoundFromItem BoundQuery BoundRow BoundSource BoundLink
    BoundGrouping BoundSelect

abbrev pub RowLayer : Type 0
RowLayer = BoundRow-F BoundExpr BoundFromItem BoundQuery BoundRow BoundSource BoundLink
    BoundGrouping BoundSelect

abbrev pub SourceLayer : Type 0
SourceLayer = BoundSource-F BoundExpr BoundFromItem BoundQuery BoundRow BoundSource BoundLink
    BoundGrouping BoundSelect

abbrev pub LinkLayer : Type 0
LinkLayer = BoundLink-F BoundExpr BoundFromItem BoundQuery BoundRow BoundSource BoundLink
    BoundGrouping BoundSelect

abbrev pub GroupingLayer : Type 0
GroupingLayer = BoundGrouping-F BoundExpr BoundFromItem BoundQuery BoundRow BoundSource BoundLink
    BoundGrouping BoundSelect

abbrev pub SelectLayer : Type 0
SelectLayer = BoundSelect-F BoundExpr BoundFromItem BoundQuery BoundRow BoundSource BoundLink
    BoundGrouping BoundSelect

module _ (k : Known) where
  abbrev pub expr_seen : ExprLayer → BoundExpr-F Expr Joining Query Exprs From Link Grouping Query
  expr_seen x = map-BoundExpr BoundExpr BoundFromItem BoundQuery BoundRow BoundSource BoundLink
      BoundGrouping BoundSelect Expr Joining Query Exprs From Link Grouping Query (expr_in k)
      (item_in k) (query_in k) (row_in k) (source_in k) (link_in k) (grouping_in k) (select_in k) x

  pub expr_in-at : (x : ExprLayer) → expr_in k (roll-BoundExpr x) ≡ expr_node k (expr_seen x)
  expr_in-at x = fold-roll-BoundExpr Expr Joining Query Exprs From Link Grouping Query
      (expr_node k) item_step query_step row_step source_step link_step grouping_step select_step x

  abbrev pub item_seen : ItemLayer → BoundFromItem-F Expr Joining Query Exprs From Link Grouping
      Query
  item_seen x = map-BoundFromItem BoundExpr BoundFromItem BoundQuery BoundRow BoundSource BoundLink
      BoundGrouping BoundSelect Expr Joining Query Exprs From Link Grouping Query (expr_in k)
      (item_in k) (query_in k) (row_in k) (source_in k) (link_in k) (grouping_in k) (select_in k) x

  pub item_in-at : (x : ItemLayer) → item_in k (roll-BoundFromItem x) ≡ item_step (item_seen x)
  item_in-at x = fold-roll-BoundFromItem Expr Joining Query Exprs From Link Grouping Query
      (expr_node k) item_step query_step row_step source_step link_step grouping_step select_step x

  abbrev pub query_seen : QueryLayer → BoundQuery-F Expr Joining Query Exprs From Link Grouping
      Query
  query_seen x = map-BoundQuery BoundExpr BoundFromItem BoundQuery BoundRow BoundSource BoundLink
      BoundGrouping BoundSelect Expr Joining Query Exprs From Link Grouping Query (expr_in k)
      (item_in k) (query_in k) (row_in k) (source_in k) (link_in k) (grouping_in k) (select_in k) x

  pub query_in-at : (x : QueryLayer) → query_in k (roll-BoundQuery x) ≡ query_step (query_seen x)
  query_in-at x = fold-roll-BoundQuery Expr Joining Query Exprs From Link Grouping Query
      (expr_node k) item_step query_step row_step source_step link_step grouping_step select_step x

  abbrev pub row_seen : RowLayer → BoundRow-F Expr Joining Query Exprs From Link Grouping Query
  row_seen x = map-BoundRow BoundExpr BoundFromItem BoundQuery BoundRow BoundSource BoundLink
      BoundGrouping BoundSelect Expr Joining Query Exprs From Link Grouping Query (expr_in k)
      (item_in k) (query_in k) (row_in k) (source_in k) (link_in k) (grouping_in k) (select_in k) x

  pub row_in-at : (x : RowLayer) → row_in k (roll-BoundRow x) ≡ row_step (row_seen x)
  row_in-at x = fold-roll-BoundRow Expr Joining Query Exprs From Link Grouping Query
      (expr_node k) item_step query_step row_step source_step link_step grouping_step select_step x

  abbrev pub source_seen : SourceLayer → BoundSource-F Expr Joining Query Exprs From Link Grouping
      Query
  source_seen x = map-BoundSource BoundExpr BoundFromItem BoundQuery BoundRow BoundSource BoundLink
      BoundGrouping BoundSelect Expr Joining Query Exprs From Link Grouping Query (expr_in k)
      (item_in k) (query_in k) (row_in k) (source_in k) (link_in k) (grouping_in k) (select_in k) x

  pub source_in-at : (x : SourceLayer) → source_in k (roll-BoundSource x) ≡ source_step
      (source_seen x)
  source_in-at x = fold-roll-BoundSource Expr Joining Query Exprs From Link Grouping Query
      (expr_node k) item_step query_step row_step source_step link_step grouping_step select_step x

  abbrev pub link_seen : LinkLayer → BoundLink-F Expr Joining Query Exprs From Link Grouping Query
  link_seen x = map-BoundLink BoundExpr BoundFromItem BoundQuery BoundRow BoundSource BoundLink
      BoundGrouping BoundSelect Expr Joining Query Exprs From Link Grouping Query (expr_in k)
      (item_in k) (query_in k) (row_in k) (source_in k) (link_in k) (grouping_in k) (select_in k) x

  pub link_in-at : (x : LinkLayer) → link_in k (roll-BoundLink x) ≡ link_step (link_seen x)
  link_in-at x = fold-roll-BoundLink Expr Joining Query Exprs From Link Grouping Query
      (expr_node k) item_step query_step row_step source_step link_step grouping_step select_step x

  abbrev pub grouping_seen : GroupingLayer → BoundGrouping-F Expr Joining Query Exprs From Link
      Grouping Query
  grouping_seen x = map-BoundGrouping BoundExpr BoundFromItem BoundQuery BoundRow BoundSource
      BoundLink BoundGrouping BoundSelect Expr Joining Query Exprs From Link Grouping Query
      (expr_in k) (item_in k) (query_in k) (row_in k) (source_in k) (link_in k) (grouping_in k)
      (select_in k) x

  pub grouping_in-at : (x : GroupingLayer) → grouping_in k (roll-BoundGrouping x) ≡ grouping_step
      (grouping_seen x)
  grouping_in-at x = fold-roll-BoundGrouping Expr Joining Query Exprs From Link Grouping Query
      (expr_node k) item_step query_step row_step source_step link_step grouping_step select_step x

  abbrev pub select_seen : SelectLayer → BoundSelect-F Expr Joining Query Exprs From Link Grouping
      Query
  select_seen x = map-BoundSelect BoundExpr BoundFromItem BoundQuery BoundRow BoundSource BoundLink
      BoundGrouping BoundSelect Expr Joining Query Exprs From Link Grouping Query (expr_in k)
      (item_in k) (query_in k) (row_in k) (source_in k) (link_in k) (grouping_in k) (select_in k) x

  pub select_in-at : (x : SelectLayer) → select_in k (roll-BoundSelect x) ≡ select_step
      (select_seen x)
  select_in-at x = fold-roll-BoundSelect Expr Joining Query Exprs From Link Grouping Query
      (expr_node k) item_step query_step row_step source_step link_step grouping_step select_step x

  pub expr_in-Literal : (v : Value) → expr_in k (expr.Literal v) ≡ Literal v
  expr_in-Literal v = ap (expr_in k) (sym (rolls-Literal v)) ∙ expr_in-at (BoundExpr-F.Literal v)

  pub expr_in-Column : (level : ℕ) (i : ℕ) → expr_in k (expr.Column level i) ≡ Column level i
  expr_in-Column level i = ap (expr_in k) (sym (rolls-Column level i)) ∙
      expr_in-at (BoundExpr-F.Column level i)

  pub expr_in-Variable : (i : ℕ) → expr_in k (expr.Variable i) ≡ Variable i
  expr_in-Variable i = ap (expr_in k) (sym (rolls-Variable i)) ∙
      expr_in-at (BoundExpr-F.Variable i)

  pub expr_in-Operation : (word : BoundOperation) (es : List BoundExpr) →
      expr_in k (expr.Operation word es) ≡ operated word (map (expr_in k) es)
  expr_in-Operation word es = ap (expr_in k) (sym (rolls-Operation word es)) ∙
      expr_in-at (BoundExpr-F.Operation word es)

  pub expr_in-Chain : (e : BoundExpr) (ls : List BoundLink) →
      expr_in k (expr.Chain e ls) ≡ Chain (expr_in k e) (links_in k ls)
  expr_in-Chain e ls = ap (expr_in k) (sym (rolls-Chain e ls)) ∙
      expr_in-at (BoundExpr-F.Chain e ls)

  pub expr_in-Call : (name : List ℕ) (es : List BoundExpr) →
      expr_in k (expr.Call name es) ≡ called k name (exprs_in k es)
  expr_in-Call name es = ap (expr_in k) (sym (rolls-Call name es)) ∙
      expr_in-at (BoundExpr-F.Call name es)

  pub expr_in-Single : (q : BoundQuery) → expr_in k (expr.Single q) ≡ Single (query_in k q)
  expr_in-Single q = ap (expr_in k) (sym (rolls-Single q)) ∙ expr_in-at (BoundExpr-F.Single q)

  pub expr_in-Exists : (q : BoundQuery) → expr_in k (expr.Exists q) ≡ Exists (query_in k q)
  expr_in-Exists q = ap (expr_in k) (sym (rolls-Exists q)) ∙ expr_in-at (BoundExpr-F.Exists q)

  pub expr_in-In : (e : BoundExpr) (q : BoundQuery) →
      expr_in k (expr.In e q) ≡ In (expr_in k e) (query_in k q)
  expr_in-In e q = ap (expr_in k) (sym (rolls-In e q)) ∙ expr_in-at (BoundExpr-F.In e q)

  pub item_in-Comma : (f : BoundSource) → item_in k (item.Comma f) ≡ after_comma (source_in k f)
  item_in-Comma f = ap (item_in k) (sym (rolls-Comma f)) ∙ item_in-at (BoundFromItem-F.Comma f)

  pub item_in-Cross : (f : BoundSource) → item_in k (item.Cross f) ≡ crossing (source_in k f)
  item_in-Cross f = ap (item_in k) (sym (rolls-Cross f)) ∙ item_in-at (BoundFromItem-F.Cross f)

  pub item_in-Inner : (f : BoundSource) (on : List BoundExpr) →
      item_in k (item.Inner f on) ≡ matching (source_in k f) (exprs_in k on)
  item_in-Inner f on = ap (item_in k) (sym (rolls-Inner f on)) ∙
      item_in-at (BoundFromItem-F.Inner f on)

  pub item_in-Left : (f : BoundSource) (on : List BoundExpr) →
      item_in k (item.Left f on) ≡ matching_or_nulls (source_in k f) (exprs_in k on)
  item_in-Left f on = ap (item_in k) (sym (rolls-Left f on)) ∙
      item_in-at (BoundFromItem-F.Left f on)

  pub query_in-Select : (s : BoundSelect) → query_in k (query.Select s) ≡ select_in k s
  query_in-Select s = ap (query_in k) (sym (rolls-Select s)) ∙ query_in-at (BoundQuery-F.Select s)

  pub query_in-Values : (rs : List BoundRow) → query_in k (query.Values rs) ≡ Values (rows_in k rs)
  query_in-Values rs = ap (query_in k) (sym (rolls-Values rs)) ∙
      query_in-at (BoundQuery-F.Values rs)

  pub query_in-Ordered : (q : BoundQuery) (keys : List SortKey) →
      query_in k (query.Ordered q keys) ≡ Ordered (query_in k q) keys
  query_in-Ordered q keys = ap (query_in k) (sym (rolls-Ordered q keys)) ∙
      query_in-at (BoundQuery-F.Ordered q keys)

  pub row_in-Row : (es : List BoundExpr) → row_in k (row.Row es) ≡ exprs_in k es
  row_in-Row es = ap (row_in k) (sym (rolls-Row es)) ∙ row_in-at (BoundRow-F.Row es)

  pub source_in-Table : (name : List ℕ) → source_in k (source.Table name) ≡ Table name
  source_in-Table name = ap (source_in k) (sym (rolls-Table name)) ∙
      source_in-at (BoundSource-F.Table name)

  pub source_in-Derived : (q : BoundQuery) → source_in k (source.Derived q) ≡ Derived (query_in k q)
  source_in-Derived q = ap (source_in k) (sym (rolls-Derived q)) ∙
      source_in-at (BoundSource-F.Derived q)

  pub link_in-parts : (l : BoundLink) → link_in k l ≡ record {
    operator = l.operator;
    operand =
        expr_in k l.operand;
  }
  link_in-parts l = link_in-at (record { operator = l.operator; operand = l.operand })

  pub grouping_in-parts : (g : BoundGrouping) → grouping_in k g
      ≡ record {
        keys = (out-BoundGrouping g).keys;
        parts = exprs_in k (out-BoundGrouping g).parts;
        aggregates = (out-BoundGrouping g).aggregates;
        having =
            exprs_in k (out-BoundGrouping g).having;
      }
  grouping_in-parts g = ap (grouping_in k) (sym (roll-out-BoundGrouping g)) ∙
      grouping_in-at (out-BoundGrouping g)

  -- a select that is made of these parts
  pub select_in-made : (items : List BoundExpr) (from : List BoundFromItem)
      (conjuncts : List BoundExpr) (grouping : Option BoundGrouping)
      → select_in k (roll-BoundSelect (record {
        items = items;
        from = from;
        conjuncts = conjuncts;
        grouping = grouping;
      }))
      ≡ selected (option_map (grouping_in k) grouping) (exprs_in k items)
      (from_of (map (item_in k) from)) (exprs_in k conjuncts)
  select_in-made items from conjuncts None = select_in-at
      (record { items = items; from = from; conjuncts = conjuncts; grouping = None })
  select_in-made items from conjuncts (Some g) =
      select_in-at (record {
        items = items;
        from = from;
        conjuncts = conjuncts;
        grouping =
            Some g;
      })

  pub select_in-parts : (s : BoundSelect) → select_in k s
      ≡ selected (option_map (grouping_in k) (out-BoundSelect s).grouping)
      (exprs_in k (out-BoundSelect s).items)
      (from_of (map (item_in k) (out-BoundSelect s).from))
      (exprs_in k (out-BoundSelect s).conjuncts)
  select_in-parts s =
      ap (select_in k) (sym (roll-out-BoundSelect s)) ∙ select_in-made (out-BoundSelect s).items
      (out-BoundSelect s).from (out-BoundSelect s).conjuncts (out-BoundSelect s).grouping

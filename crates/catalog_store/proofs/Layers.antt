-- One layer of each kind of bound tree: its plain tree and its uses, from those of the trees in it.
use Rattle.std.proofs.Common.{◌≡◌}
use Rattle.bound_trees.specs.declared.expr.BoundExpr.{BoundExpr, roll-BoundExpr}
use Rattle.bound_trees.specs.declared.expr.BoundLink.{BoundLink, roll-BoundLink}
use Rattle.bound_trees.specs.declared.query.BoundFromItem.{BoundFromItem, roll-BoundFromItem}
use Rattle.bound_trees.specs.declared.query.BoundGrouping.{BoundGrouping, roll-BoundGrouping}
use Rattle.bound_trees.specs.declared.query.BoundQuery.{BoundQuery, roll-BoundQuery}
use Rattle.bound_trees.specs.declared.query.BoundRow.{BoundRow, roll-BoundRow}
use Rattle.bound_trees.specs.declared.query.BoundSelect.{BoundSelect, roll-BoundSelect}
use Rattle.bound_trees.specs.declared.query.BoundSource.{BoundSource, roll-BoundSource}
use Rattle.bound_trees.specs.declared.expr.BoundExpr.TheOpen.{BoundExpr-F, BoundFromItem-F}
use Rattle.bound_trees.specs.declared.expr.BoundExpr.TheOpen.{BoundQuery-F, BoundRow-F}
use Rattle.bound_trees.specs.declared.expr.BoundExpr.TheOpen.{BoundSource-F, BoundLink-F}
use Rattle.bound_trees.specs.declared.expr.BoundExpr.TheOpen.{BoundGrouping-F, BoundSelect-F}
use Rattle.bound_trees.specs.declared.expr.BoundExpr.TheFolds.{map-BoundExpr, map-BoundFromItem}
use Rattle.bound_trees.specs.declared.expr.BoundExpr.TheFolds.{map-BoundQuery, map-BoundRow}
use Rattle.bound_trees.specs.declared.expr.BoundExpr.TheFolds.{map-BoundSource, map-BoundLink}
use Rattle.bound_trees.specs.declared.expr.BoundExpr.TheFolds.{map-BoundGrouping, map-BoundSelect}
use Rattle.bound_trees.specs.declared.expr.BoundExpr.TheFolds.{fold-roll-BoundExpr}
use Rattle.bound_trees.specs.declared.expr.BoundExpr.TheFolds.{fold-roll-BoundFromItem}
use Rattle.bound_trees.specs.declared.expr.BoundExpr.TheFolds.{fold-roll-BoundQuery}
use Rattle.bound_trees.specs.declared.expr.BoundExpr.TheFolds.{fold-roll-BoundRow}
use Rattle.bound_trees.specs.declared.expr.BoundExpr.TheFolds.{fold-roll-BoundSource}
use Rattle.bound_trees.specs.declared.expr.BoundExpr.TheFolds.{fold-roll-BoundLink}
use Rattle.bound_trees.specs.declared.expr.BoundExpr.TheFolds.{fold-roll-BoundGrouping}
use Rattle.bound_trees.specs.declared.expr.BoundExpr.TheFolds.{fold-roll-BoundSelect}
use Rattle.rel_algebra.specs.Tree.{Expr, Exprs, From, Query}
use Rattle.catalog_store.specs.Catalog.{Catalog}
use Rattle.catalog_store.specs.Uses.{Uses, expr_uses, item_uses, query_uses, row_uses, source_uses}
use Rattle.catalog_store.specs.Uses.{link_uses, grouping_uses, select_uses, uses_in, uses_in_item}
use Rattle.catalog_store.specs.Uses.{uses_in_query, uses_in_row, uses_in_source, uses_in_link}
use Rattle.catalog_store.specs.Uses.{uses_in_grouping, uses_in_select}
use Rattle.catalog_store.specs.View.{Joining, Grouping, Link, expr_step, item_step, query_step}
use Rattle.catalog_store.specs.View.{row_step, source_step, link_step, grouping_step, select_step}
use Rattle.catalog_store.specs.View.{tree_of, item_of, query_of, row_of, source_of, link_of}
use Rattle.catalog_store.specs.View.{grouping_of, select_of}

abbrev pub ExprLayer : Type 0
ExprLayer = BoundExpr-F BoundExpr BoundFromItem BoundQuery BoundRow BoundSource BoundLink
    BoundGrouping BoundSelect

abbrev pub ItemLayer : Type 0
ItemLayer = BoundFromItem-F BoundExpr BoundFromItem BoundQuery BoundRow BoundSource BoundLink
    BoundGrouping BoundSelect

abbrev pub QueryLayer : Type 0
QueryLayer = BoundQuery-F BoundExpr BoundFromItem BoundQuery BoundRow BoundSource BoundLink
    BoundGrouping BoundSelect

abbrev pub RowLayer : Type 0
RowLayer = BoundRow-F BoundExpr BoundFromItem BoundQuery BoundRow BoundSource BoundLink
    BoundGrouping BoundSelect

abbrev pub SourceLayer : Type 0
SourceLayer = BoundSource-F BoundExpr BoundFromItem BoundQuery BoundRow BoundSource BoundLink
    BoundGrouping BoundSelect

abbrev pub LinkLayer : Type 0
LinkLayer = BoundLink-F BoundExpr BoundFromItem BoundQuery BoundRow BoundSource BoundLink
    BoundGrouping BoundSelect

abbrev pub GroupingLayer : Type 0
GroupingLayer = BoundGrouping-F BoundExpr BoundFromItem BoundQuery BoundRow BoundSource BoundLink
    BoundGrouping BoundSelect

abbrev pub SelectLayer : Type 0
SelectLayer = BoundSelect-F BoundExpr BoundFromItem BoundQuery BoundRow BoundSource BoundLink
    BoundGrouping BoundSelect

-- ---- uses

abbrev pub expr_used : ExprLayer → BoundExpr-F Uses Uses Uses Uses Uses Uses Uses Uses
expr_used x = map-BoundExpr BoundExpr BoundFromItem BoundQuery BoundRow BoundSource BoundLink
    BoundGrouping BoundSelect Uses Uses Uses Uses Uses Uses Uses Uses uses_in uses_in_item
    uses_in_query uses_in_row uses_in_source uses_in_link uses_in_grouping uses_in_select x

pub expr_uses-at : (x : ExprLayer) → uses_in (roll-BoundExpr x) ≡ expr_uses (expr_used x)
expr_uses-at x = fold-roll-BoundExpr Uses Uses Uses Uses Uses Uses Uses Uses expr_uses item_uses
    query_uses row_uses source_uses link_uses grouping_uses select_uses x

abbrev pub item_used : ItemLayer → BoundFromItem-F Uses Uses Uses Uses Uses Uses Uses Uses
item_used x = map-BoundFromItem BoundExpr BoundFromItem BoundQuery BoundRow BoundSource BoundLink
    BoundGrouping BoundSelect Uses Uses Uses Uses Uses Uses Uses Uses uses_in uses_in_item
    uses_in_query uses_in_row uses_in_source uses_in_link uses_in_grouping uses_in_select x

pub item_uses-at : (x : ItemLayer) → uses_in_item (roll-BoundFromItem x) ≡ item_uses (item_used x)
item_uses-at x = fold-roll-BoundFromItem Uses Uses Uses Uses Uses Uses Uses Uses expr_uses item_uses
    query_uses row_uses source_uses link_uses grouping_uses select_uses x

abbrev pub query_used : QueryLayer → BoundQuery-F Uses Uses Uses Uses Uses Uses Uses Uses
query_used x = map-BoundQuery BoundExpr BoundFromItem BoundQuery BoundRow BoundSource BoundLink
    BoundGrouping BoundSelect Uses Uses Uses Uses Uses Uses Uses Uses uses_in uses_in_item
    uses_in_query uses_in_row uses_in_source uses_in_link uses_in_grouping uses_in_select x

pub query_uses-at : (x : QueryLayer) → uses_in_query (roll-BoundQuery x) ≡ query_uses (query_used x)
query_uses-at x = fold-roll-BoundQuery Uses Uses Uses Uses Uses Uses Uses Uses expr_uses item_uses
    query_uses row_uses source_uses link_uses grouping_uses select_uses x

abbrev pub row_used : RowLayer → BoundRow-F Uses Uses Uses Uses Uses Uses Uses Uses
row_used x = map-BoundRow BoundExpr BoundFromItem BoundQuery BoundRow BoundSource BoundLink
    BoundGrouping BoundSelect Uses Uses Uses Uses Uses Uses Uses Uses uses_in uses_in_item
    uses_in_query uses_in_row uses_in_source uses_in_link uses_in_grouping uses_in_select x

pub row_uses-at : (x : RowLayer) → uses_in_row (roll-BoundRow x) ≡ row_uses (row_used x)
row_uses-at x = fold-roll-BoundRow Uses Uses Uses Uses Uses Uses Uses Uses expr_uses item_uses
    query_uses row_uses source_uses link_uses grouping_uses select_uses x

abbrev pub source_used : SourceLayer → BoundSource-F Uses Uses Uses Uses Uses Uses Uses Uses
source_used x = map-BoundSource BoundExpr BoundFromItem BoundQuery BoundRow BoundSource BoundLink
    BoundGrouping BoundSelect Uses Uses Uses Uses Uses Uses Uses Uses uses_in uses_in_item
    uses_in_query uses_in_row uses_in_source uses_in_link uses_in_grouping uses_in_select x

pub source_uses-at : (x : SourceLayer) → uses_in_source (roll-BoundSource x) ≡ source_uses
    (source_used x)
source_uses-at x = fold-roll-BoundSource Uses Uses Uses Uses Uses Uses Uses Uses expr_uses item_uses
    query_uses row_uses source_uses link_uses grouping_uses select_uses x

abbrev pub link_used : LinkLayer → BoundLink-F Uses Uses Uses Uses Uses Uses Uses Uses
link_used x = map-BoundLink BoundExpr BoundFromItem BoundQuery BoundRow BoundSource BoundLink
    BoundGrouping BoundSelect Uses Uses Uses Uses Uses Uses Uses Uses uses_in uses_in_item
    uses_in_query uses_in_row uses_in_source uses_in_link uses_in_grouping uses_in_select x

pub link_uses-at : (x : LinkLayer) → uses_in_link (roll-BoundLink x) ≡ link_uses (link_used x)
link_uses-at x = fold-roll-BoundLink Uses Uses Uses Uses Uses Uses Uses Uses expr_uses item_uses
    query_uses row_uses source_uses link_uses grouping_uses select_uses x

abbrev pub grouping_used : GroupingLayer → BoundGrouping-F Uses Uses Uses Uses Uses Uses Uses Uses
grouping_used x = map-BoundGrouping BoundExpr BoundFromItem BoundQuery BoundRow BoundSource
    BoundLink BoundGrouping BoundSelect Uses Uses Uses Uses Uses Uses Uses Uses uses_in uses_in_item
    uses_in_query uses_in_row uses_in_source uses_in_link uses_in_grouping uses_in_select x

pub grouping_uses-at : (x : GroupingLayer) → uses_in_grouping (roll-BoundGrouping x) ≡ grouping_uses
    (grouping_used x)
grouping_uses-at x = fold-roll-BoundGrouping Uses Uses Uses Uses Uses Uses Uses Uses expr_uses
    item_uses query_uses row_uses source_uses link_uses grouping_uses select_uses x

abbrev pub select_used : SelectLayer → BoundSelect-F Uses Uses Uses Uses Uses Uses Uses Uses
select_used x = map-BoundSelect BoundExpr BoundFromItem BoundQuery BoundRow BoundSource BoundLink
    BoundGrouping BoundSelect Uses Uses Uses Uses Uses Uses Uses Uses uses_in uses_in_item
    uses_in_query uses_in_row uses_in_source uses_in_link uses_in_grouping uses_in_select x

pub select_uses-at : (x : SelectLayer) → uses_in_select (roll-BoundSelect x) ≡ select_uses
    (select_used x)
select_uses-at x = fold-roll-BoundSelect Uses Uses Uses Uses Uses Uses Uses Uses expr_uses item_uses
    query_uses row_uses source_uses link_uses grouping_uses select_uses x

-- ---- plain trees

module _ (k : Catalog) where
  abbrev pub expr_seen : ExprLayer → BoundExpr-F Expr Joining Query Exprs From Link Grouping Query
  expr_seen x = map-BoundExpr BoundExpr BoundFromItem BoundQuery BoundRow BoundSource BoundLink
      BoundGrouping BoundSelect Expr Joining Query Exprs From Link Grouping Query (tree_of k)
      (item_of k) (query_of k) (row_of k) (source_of k) (link_of k) (grouping_of k) (select_of k) x

  pub tree_of-at : (x : ExprLayer) → tree_of k (roll-BoundExpr x) ≡ expr_step k (expr_seen x)
  tree_of-at x = fold-roll-BoundExpr Expr Joining Query Exprs From Link Grouping Query
      (expr_step k) item_step query_step row_step source_step link_step grouping_step select_step x

  abbrev pub item_seen : ItemLayer → BoundFromItem-F Expr Joining Query Exprs From Link Grouping
      Query
  item_seen x = map-BoundFromItem BoundExpr BoundFromItem BoundQuery BoundRow BoundSource BoundLink
      BoundGrouping BoundSelect Expr Joining Query Exprs From Link Grouping Query (tree_of k)
      (item_of k) (query_of k) (row_of k) (source_of k) (link_of k) (grouping_of k) (select_of k) x

  pub item_of-at : (x : ItemLayer) → item_of k (roll-BoundFromItem x) ≡ item_step (item_seen x)
  item_of-at x = fold-roll-BoundFromItem Expr Joining Query Exprs From Link Grouping Query
      (expr_step k) item_step query_step row_step source_step link_step grouping_step select_step x

  abbrev pub query_seen : QueryLayer → BoundQuery-F Expr Joining Query Exprs From Link Grouping
      Query
  query_seen x = map-BoundQuery BoundExpr BoundFromItem BoundQuery BoundRow BoundSource BoundLink
      BoundGrouping BoundSelect Expr Joining Query Exprs From Link Grouping Query (tree_of k)
      (item_of k) (query_of k) (row_of k) (source_of k) (link_of k) (grouping_of k) (select_of k) x

  pub query_of-at : (x : QueryLayer) → query_of k (roll-BoundQuery x) ≡ query_step (query_seen x)
  query_of-at x = fold-roll-BoundQuery Expr Joining Query Exprs From Link Grouping Query
      (expr_step k) item_step query_step row_step source_step link_step grouping_step select_step x

  abbrev pub row_seen : RowLayer → BoundRow-F Expr Joining Query Exprs From Link Grouping Query
  row_seen x = map-BoundRow BoundExpr BoundFromItem BoundQuery BoundRow BoundSource BoundLink
      BoundGrouping BoundSelect Expr Joining Query Exprs From Link Grouping Query (tree_of k)
      (item_of k) (query_of k) (row_of k) (source_of k) (link_of k) (grouping_of k) (select_of k) x

  pub row_of-at : (x : RowLayer) → row_of k (roll-BoundRow x) ≡ row_step (row_seen x)
  row_of-at x = fold-roll-BoundRow Expr Joining Query Exprs From Link Grouping Query
      (expr_step k) item_step query_step row_step source_step link_step grouping_step select_step x

  abbrev pub source_seen : SourceLayer → BoundSource-F Expr Joining Query Exprs From Link Grouping
      Query
  source_seen x = map-BoundSource BoundExpr BoundFromItem BoundQuery BoundRow BoundSource BoundLink
      BoundGrouping BoundSelect Expr Joining Query Exprs From Link Grouping Query (tree_of k)
      (item_of k) (query_of k) (row_of k) (source_of k) (link_of k) (grouping_of k) (select_of k) x

  pub source_of-at : (x : SourceLayer) → source_of k (roll-BoundSource x) ≡ source_step
      (source_seen x)
  source_of-at x = fold-roll-BoundSource Expr Joining Query Exprs From Link Grouping Query
      (expr_step k) item_step query_step row_step source_step link_step grouping_step select_step x

  abbrev pub link_seen : LinkLayer → BoundLink-F Expr Joining Query Exprs From Link Grouping Query
  link_seen x = map-BoundLink BoundExpr BoundFromItem BoundQuery BoundRow BoundSource BoundLink
      BoundGrouping BoundSelect Expr Joining Query Exprs From Link Grouping Query (tree_of k)
      (item_of k) (query_of k) (row_of k) (source_of k) (link_of k) (grouping_of k) (select_of k) x

  pub link_of-at : (x : LinkLayer) → link_of k (roll-BoundLink x) ≡ link_step (link_seen x)
  link_of-at x = fold-roll-BoundLink Expr Joining Query Exprs From Link Grouping Query
      (expr_step k) item_step query_step row_step source_step link_step grouping_step select_step x

  abbrev pub grouping_seen : GroupingLayer → BoundGrouping-F Expr Joining Query Exprs From Link
      Grouping Query
  grouping_seen x = map-BoundGrouping BoundExpr BoundFromItem BoundQuery BoundRow BoundSource
      BoundLink BoundGrouping BoundSelect Expr Joining Query Exprs From Link Grouping Query
      (tree_of k) (item_of k) (query_of k) (row_of k) (source_of k) (link_of k) (grouping_of k)
      (select_of k) x

  pub grouping_of-at : (x : GroupingLayer) → grouping_of k (roll-BoundGrouping x) ≡ grouping_step
      (grouping_seen x)
  grouping_of-at x = fold-roll-BoundGrouping Expr Joining Query Exprs From Link Grouping Query
      (expr_step k) item_step query_step row_step source_step link_step grouping_step select_step x

  abbrev pub select_seen : SelectLayer → BoundSelect-F Expr Joining Query Exprs From Link Grouping
      Query
  select_seen x = map-BoundSelect BoundExpr BoundFromItem BoundQuery BoundRow BoundSource BoundLink
      BoundGrouping BoundSelect Expr Joining Query Exprs From Link Grouping Query (tree_of k)
      (item_of k) (query_of k) (row_of k) (source_of k) (link_of k) (grouping_of k) (select_of k) x

  pub select_of-at : (x : SelectLayer) → select_of k (roll-BoundSelect x) ≡ select_step
      (select_seen x)
  select_of-at x = fold-roll-BoundSelect Expr Joining Query Exprs From Link Grouping Query
      (expr_step k) item_step query_step row_step source_step link_step grouping_step select_step x

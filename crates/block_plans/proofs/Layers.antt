-- One layer of each kind of bound tree: its plain tree where blocks have plans, from those of the
-- trees in it.
use Rattle.std.proofs.Common.{◌≡◌}
use Rattle.bound_trees.specs.declared.expr.BoundExpr.{BoundExpr, roll-BoundExpr}
use Rattle.bound_trees.specs.declared.expr.BoundLink.{BoundLink, roll-BoundLink}
use Rattle.bound_trees.specs.declared.query.BoundFromItem.{BoundFromItem, roll-BoundFromItem}
use Rattle.bound_trees.specs.declared.query.BoundGrouping.{BoundGrouping, roll-BoundGrouping}
use Rattle.bound_trees.specs.declared.query.BoundQuery.{BoundQuery, roll-BoundQuery}
use Rattle.bound_trees.specs.declared.query.BoundRow.{BoundRow, roll-BoundRow}
use Rattle.bound_trees.specs.declared.query.BoundSelect.{BoundSelect, roll-BoundSelect}
use Rattle.bound_trees.specs.declared.query.BoundSource.{BoundSource, roll-BoundSource}
use Rattle.bound_trees.specs.declared.expr.BoundExpr.TheOpen.{BoundExpr-F, BoundFromItem-F}
use Rattle.bound_trees.specs.declared.expr.BoundExpr.TheOpen.{BoundQuery-F, BoundRow-F}
use Rattle.bound_trees.specs.declared.expr.BoundExpr.TheOpen.{BoundSource-F, BoundLink-F}
use Rattle.bound_trees.specs.declared.expr.BoundExpr.TheOpen.{BoundGrouping-F, BoundSelect-F}
use Rattle.bound_trees.specs.declared.expr.BoundExpr.TheFolds.{map-BoundExpr, map-BoundFromItem}
use Rattle.bound_trees.specs.declared.expr.BoundExpr.TheFolds.{map-BoundQuery, map-BoundRow}
use Rattle.bound_trees.specs.declared.expr.BoundExpr.TheFolds.{map-BoundSource, map-BoundLink}
use Rattle.bound_trees.specs.declared.expr.BoundExpr.TheFolds.{map-BoundGrouping, map-BoundSelect}
use Rattle.bound_trees.specs.declared.expr.BoundExpr.TheFolds.{fold-roll-BoundExpr}
use Rattle.bound_trees.specs.declared.expr.BoundExpr.TheFolds.{fold-roll-BoundFromItem}
use Rattle.bound_trees.specs.declared.expr.BoundExpr.TheFolds.{fold-roll-BoundQuery}
use Rattle.bound_trees.specs.declared.expr.BoundExpr.TheFolds.{fold-roll-BoundRow}
use Rattle.bound_trees.specs.declared.expr.BoundExpr.TheFolds.{fold-roll-BoundSource}
use Rattle.bound_trees.specs.declared.expr.BoundExpr.TheFolds.{fold-roll-BoundLink}
use Rattle.bound_trees.specs.declared.expr.BoundExpr.TheFolds.{fold-roll-BoundGrouping}
use Rattle.bound_trees.specs.declared.expr.BoundExpr.TheFolds.{fold-roll-BoundSelect}
use Rattle.rel_algebra.specs.Tree.{Expr, Exprs, From, Query}
use Rattle.catalog_store.specs.View.{Joining, Grouping, Link, item_step, query_step}
use Rattle.catalog_store.specs.View.{row_step, source_step, link_step, grouping_step, select_step}
use Rattle.catalog_store.proofs.Laws.{ExprLayer, ItemLayer, QueryLayer, RowLayer, SourceLayer}
use Rattle.catalog_store.proofs.Laws.{LinkLayer, GroupingLayer, SelectLayer}
use Rattle.block_plans.specs.Callees.{Callees}
use Rattle.block_plans.specs.View.{call_step, expr_seen, item_seen, query_seen, row_seen}
use Rattle.block_plans.specs.View.{source_seen, link_seen, grouping_seen, select_seen}

module _ (k : Callees) where
  abbrev pub expr_inside : ExprLayer → BoundExpr-F Expr Joining Query Exprs From Link Grouping Query
  expr_inside x = map-BoundExpr BoundExpr BoundFromItem BoundQuery BoundRow BoundSource BoundLink
      BoundGrouping BoundSelect Expr Joining Query Exprs From Link Grouping Query (expr_seen k)
      (item_seen k) (query_seen k) (row_seen k) (source_seen k) (link_seen k) (grouping_seen k)
      (select_seen k) x

  pub expr_seen-at : (x : ExprLayer) → expr_seen k (roll-BoundExpr x) ≡ call_step k (expr_inside x)
  expr_seen-at x = fold-roll-BoundExpr Expr Joining Query Exprs From Link Grouping Query
      (call_step k) item_step query_step row_step source_step link_step grouping_step select_step x

  abbrev pub item_inside : ItemLayer → BoundFromItem-F Expr Joining Query Exprs From Link Grouping
      Query
  item_inside x = map-BoundFromItem BoundExpr BoundFromItem BoundQuery BoundRow BoundSource
      BoundLink
      BoundGrouping BoundSelect Expr Joining Query Exprs From Link Grouping Query (expr_seen k)
      (item_seen k) (query_seen k) (row_seen k) (source_seen k) (link_seen k) (grouping_seen k)
      (select_seen k) x

  pub item_seen-at : (x : ItemLayer) → item_seen k (roll-BoundFromItem x) ≡ item_step
      (item_inside x)
  item_seen-at x = fold-roll-BoundFromItem Expr Joining Query Exprs From Link Grouping Query
      (call_step k) item_step query_step row_step source_step link_step grouping_step select_step x

  abbrev pub query_inside : QueryLayer → BoundQuery-F Expr Joining Query Exprs From Link Grouping
      Query
  query_inside x = map-BoundQuery BoundExpr BoundFromItem BoundQuery BoundRow BoundSource BoundLink
      BoundGrouping BoundSelect Expr Joining Query Exprs From Link Grouping Query (expr_seen k)
      (item_seen k) (query_seen k) (row_seen k) (source_seen k) (link_seen k) (grouping_seen k)
      (select_seen k) x

  pub query_seen-at : (x : QueryLayer) → query_seen k (roll-BoundQuery x) ≡ query_step
      (query_inside x)
  query_seen-at x = fold-roll-BoundQuery Expr Joining Query Exprs From Link Grouping Query
      (call_step k) item_step query_step row_step source_step link_step grouping_step select_step x

  abbrev pub row_inside : RowLayer → BoundRow-F Expr Joining Query Exprs From Link Grouping Query
  row_inside x = map-BoundRow BoundExpr BoundFromItem BoundQuery BoundRow BoundSource BoundLink
      BoundGrouping BoundSelect Expr Joining Query Exprs From Link Grouping Query (expr_seen k)
      (item_seen k) (query_seen k) (row_seen k) (source_seen k) (link_seen k) (grouping_seen k)
      (select_seen k) x

  pub row_seen-at : (x : RowLayer) → row_seen k (roll-BoundRow x) ≡ row_step (row_inside x)
  row_seen-at x = fold-roll-BoundRow Expr Joining Query Exprs From Link Grouping Query
      (call_step k) item_step query_step row_step source_step link_step grouping_step select_step x

  abbrev pub source_inside : SourceLayer → BoundSource-F Expr Joining Query Exprs From Link Grouping
      Query
  source_inside x = map-BoundSource BoundExpr BoundFromItem BoundQuery BoundRow BoundSource
      BoundLink
      BoundGrouping BoundSelect Expr Joining Query Exprs From Link Grouping Query (expr_seen k)
      (item_seen k) (query_seen k) (row_seen k) (source_seen k) (link_seen k) (grouping_seen k)
      (select_seen k) x

  pub source_seen-at : (x : SourceLayer) → source_seen k (roll-BoundSource x) ≡ source_step
      (source_inside x)
  source_seen-at x = fold-roll-BoundSource Expr Joining Query Exprs From Link Grouping Query
      (call_step k) item_step query_step row_step source_step link_step grouping_step select_step x

  abbrev pub link_inside : LinkLayer → BoundLink-F Expr Joining Query Exprs From Link Grouping Query
  link_inside x = map-BoundLink BoundExpr BoundFromItem BoundQuery BoundRow BoundSource BoundLink
      BoundGrouping BoundSelect Expr Joining Query Exprs From Link Grouping Query (expr_seen k)
      (item_seen k) (query_seen k) (row_seen k) (source_seen k) (link_seen k) (grouping_seen k)
      (select_seen k) x

  pub link_seen-at : (x : LinkLayer) → link_seen k (roll-BoundLink x) ≡ link_step (link_inside x)
  link_seen-at x = fold-roll-BoundLink Expr Joining Query Exprs From Link Grouping Query
      (call_step k) item_step query_step row_step source_step link_step grouping_step select_step x

  abbrev pub grouping_inside : GroupingLayer → BoundGrouping-F Expr Joining Query Exprs From Link
      Grouping Query
  grouping_inside x = map-BoundGrouping BoundExpr BoundFromItem BoundQuery BoundRow BoundSource
      BoundLink BoundGrouping BoundSelect Expr Joining Query Exprs From Link Grouping Query
      (expr_seen k) (item_seen k) (query_seen k) (row_seen k) (source_seen k) (link_seen k)
      (grouping_seen k)
      (select_seen k) x

  pub grouping_seen-at : (x : GroupingLayer) → grouping_seen k (roll-BoundGrouping x) ≡
      grouping_step
      (grouping_inside x)
  grouping_seen-at x = fold-roll-BoundGrouping Expr Joining Query Exprs From Link Grouping Query
      (call_step k) item_step query_step row_step source_step link_step grouping_step select_step x

  abbrev pub select_inside : SelectLayer → BoundSelect-F Expr Joining Query Exprs From Link Grouping
      Query
  select_inside x = map-BoundSelect BoundExpr BoundFromItem BoundQuery BoundRow BoundSource
      BoundLink
      BoundGrouping BoundSelect Expr Joining Query Exprs From Link Grouping Query (expr_seen k)
      (item_seen k) (query_seen k) (row_seen k) (source_seen k) (link_seen k) (grouping_seen k)
      (select_seen k) x

  pub select_seen-at : (x : SelectLayer) → select_seen k (roll-BoundSelect x) ≡ select_step
      (select_inside x)
  select_seen-at x = fold-roll-BoundSelect Expr Joining Query Exprs From Link Grouping Query
      (call_step k) item_step query_step row_step source_step link_step grouping_step select_step x

-- Bound trees seen by what calls stand for, and one layer of each kind of them.
use Rattle.std.proofs.Common.{◌≡◌, ℕ, List}
use Rattle.bound_trees.specs.declared.expr.BoundExpr.{BoundExpr, roll-BoundExpr, fold-BoundExpr}
use Rattle.bound_trees.specs.declared.expr.BoundLink.{BoundLink, roll-BoundLink, fold-BoundLink}
use Rattle.bound_trees.specs.declared.query.BoundFromItem.{BoundFromItem, roll-BoundFromItem}
use Rattle.bound_trees.specs.declared.query.BoundFromItem.{fold-BoundFromItem}
use Rattle.bound_trees.specs.declared.query.BoundGrouping.{BoundGrouping, roll-BoundGrouping}
use Rattle.bound_trees.specs.declared.query.BoundGrouping.{fold-BoundGrouping}
use Rattle.bound_trees.specs.declared.query.BoundQuery.{BoundQuery, roll-BoundQuery}
use Rattle.bound_trees.specs.declared.query.BoundQuery.{fold-BoundQuery}
use Rattle.bound_trees.specs.declared.query.BoundRow.{BoundRow, roll-BoundRow}
use Rattle.bound_trees.specs.declared.query.BoundRow.{fold-BoundRow}
use Rattle.bound_trees.specs.declared.query.BoundSelect.{BoundSelect, roll-BoundSelect}
use Rattle.bound_trees.specs.declared.query.BoundSelect.{fold-BoundSelect}
use Rattle.bound_trees.specs.declared.query.BoundSource.{BoundSource, roll-BoundSource}
use Rattle.bound_trees.specs.declared.query.BoundSource.{fold-BoundSource}
use Rattle.bound_trees.specs.declared.expr.BoundExpr.TheOpen.{BoundExpr-F, BoundFromItem-F}
use Rattle.bound_trees.specs.declared.expr.BoundExpr.TheOpen.{BoundQuery-F, BoundRow-F}
use Rattle.bound_trees.specs.declared.expr.BoundExpr.TheOpen.{BoundSource-F, BoundLink-F}
use Rattle.bound_trees.specs.declared.expr.BoundExpr.TheOpen.{BoundGrouping-F, BoundSelect-F}
use Rattle.bound_trees.specs.declared.expr.BoundExpr.TheFolds.{map-BoundExpr, map-BoundFromItem}
use Rattle.bound_trees.specs.declared.expr.BoundExpr.TheFolds.{map-BoundQuery, map-BoundRow}
use Rattle.bound_trees.specs.declared.expr.BoundExpr.TheFolds.{map-BoundSource, map-BoundLink}
use Rattle.bound_trees.specs.declared.expr.BoundExpr.TheFolds.{map-BoundGrouping, map-BoundSelect}
use Rattle.bound_trees.specs.declared.expr.BoundExpr.TheFolds.{fold-roll-BoundExpr}
use Rattle.bound_trees.specs.declared.expr.BoundExpr.TheFolds.{fold-roll-BoundFromItem}
use Rattle.bound_trees.specs.declared.expr.BoundExpr.TheFolds.{fold-roll-BoundQuery}
use Rattle.bound_trees.specs.declared.expr.BoundExpr.TheFolds.{fold-roll-BoundRow}
use Rattle.bound_trees.specs.declared.expr.BoundExpr.TheFolds.{fold-roll-BoundSource}
use Rattle.bound_trees.specs.declared.expr.BoundExpr.TheFolds.{fold-roll-BoundLink}
use Rattle.bound_trees.specs.declared.expr.BoundExpr.TheFolds.{fold-roll-BoundGrouping}
use Rattle.bound_trees.specs.declared.expr.BoundExpr.TheFolds.{fold-roll-BoundSelect}
use Rattle.rel_algebra.specs.Tree.{Expr, Exprs, From, Query, Literal, Column, Variable, Chain}
use Rattle.rel_algebra.specs.Tree.{Single, Exists, In}
use Rattle.catalog_store.specs.View.{Joining, Grouping, Link, links, exprs, operated}
use Rattle.catalog_store.specs.View.{item_step, query_step}
use Rattle.catalog_store.specs.View.{row_step, source_step, link_step, grouping_step, select_step}
use Rattle.catalog_store.proofs.Laws.{ExprLayer, ItemLayer, QueryLayer, RowLayer, SourceLayer}
use Rattle.catalog_store.proofs.Laws.{LinkLayer, GroupingLayer, SelectLayer}

-- what a call of a name over its arguments stands for
abbrev pub Calls : Type 0
Calls = List ℕ → List Expr → Expr

-- a node of an expression, once its operands and queries are plain trees
abbrev pub call_node : Calls → BoundExpr-F Expr Joining Query Exprs From Link Grouping Query → Expr
call_node s (BoundExpr-F.Literal v) = Literal v
call_node s (BoundExpr-F.Column level i) = Column level i
call_node s (BoundExpr-F.Variable i) = Variable i
call_node s (BoundExpr-F.Operation word operands) = operated word operands
call_node s (BoundExpr-F.Chain first rest) = Chain first (links rest)
call_node s (BoundExpr-F.Call name args) = s name args
call_node s (BoundExpr-F.Single query) = Single query
call_node s (BoundExpr-F.Exists query) = Exists query
call_node s (BoundExpr-F.In e query) = In e query

-- ---- whole trees

abbrev pub expr_by : Calls → BoundExpr → Expr
expr_by s = fold-BoundExpr Expr Joining Query Exprs From Link Grouping Query (call_node s) item_step
    query_step row_step source_step link_step grouping_step select_step

abbrev pub item_by : Calls → BoundFromItem → Joining
item_by s = fold-BoundFromItem Expr Joining Query Exprs From Link Grouping Query (call_node s) item_step
    query_step row_step source_step link_step grouping_step select_step

abbrev pub query_by : Calls → BoundQuery → Query
query_by s = fold-BoundQuery Expr Joining Query Exprs From Link Grouping Query (call_node s) item_step
    query_step row_step source_step link_step grouping_step select_step

abbrev pub row_by : Calls → BoundRow → Exprs
row_by s = fold-BoundRow Expr Joining Query Exprs From Link Grouping Query (call_node s) item_step
    query_step row_step source_step link_step grouping_step select_step

abbrev pub source_by : Calls → BoundSource → From
source_by s = fold-BoundSource Expr Joining Query Exprs From Link Grouping Query (call_node s) item_step
    query_step row_step source_step link_step grouping_step select_step

abbrev pub link_by : Calls → BoundLink → Link
link_by s = fold-BoundLink Expr Joining Query Exprs From Link Grouping Query (call_node s) item_step
    query_step row_step source_step link_step grouping_step select_step

abbrev pub grouping_by : Calls → BoundGrouping → Grouping
grouping_by s = fold-BoundGrouping Expr Joining Query Exprs From Link Grouping Query (call_node s) item_step
    query_step row_step source_step link_step grouping_step select_step

abbrev pub select_by : Calls → BoundSelect → Query
select_by s = fold-BoundSelect Expr Joining Query Exprs From Link Grouping Query (call_node s) item_step
    query_step row_step source_step link_step grouping_step select_step

-- ---- layers

module _ (s : Calls) where
  abbrev pub expr_inside : ExprLayer → BoundExpr-F Expr Joining Query Exprs From Link Grouping Query
  expr_inside x = map-BoundExpr BoundExpr BoundFromItem BoundQuery BoundRow BoundSource BoundLink
      BoundGrouping BoundSelect Expr Joining Query Exprs From Link Grouping Query (expr_by s)
      (item_by s) (query_by s) (row_by s) (source_by s) (link_by s) (grouping_by s)
      (select_by s) x

  pub expr_by-at : (x : ExprLayer) → expr_by s (roll-BoundExpr x) ≡ call_node s (expr_inside x)
  expr_by-at x = fold-roll-BoundExpr Expr Joining Query Exprs From Link Grouping Query
      (call_node s) item_step query_step row_step source_step link_step grouping_step select_step x

  abbrev pub item_inside : ItemLayer → BoundFromItem-F Expr Joining Query Exprs From Link Grouping
      Query
  item_inside x = map-BoundFromItem BoundExpr BoundFromItem BoundQuery BoundRow BoundSource
      BoundLink
      BoundGrouping BoundSelect Expr Joining Query Exprs From Link Grouping Query (expr_by s)
      (item_by s) (query_by s) (row_by s) (source_by s) (link_by s) (grouping_by s)
      (select_by s) x

  pub item_by-at : (x : ItemLayer) → item_by s (roll-BoundFromItem x) ≡ item_step
      (item_inside x)
  item_by-at x = fold-roll-BoundFromItem Expr Joining Query Exprs From Link Grouping Query
      (call_node s) item_step query_step row_step source_step link_step grouping_step select_step x

  abbrev pub query_inside : QueryLayer → BoundQuery-F Expr Joining Query Exprs From Link Grouping
      Query
  query_inside x = map-BoundQuery BoundExpr BoundFromItem BoundQuery BoundRow BoundSource BoundLink
      BoundGrouping BoundSelect Expr Joining Query Exprs From Link Grouping Query (expr_by s)
      (item_by s) (query_by s) (row_by s) (source_by s) (link_by s) (grouping_by s)
      (select_by s) x

  pub query_by-at : (x : QueryLayer) → query_by s (roll-BoundQuery x) ≡ query_step
      (query_inside x)
  query_by-at x = fold-roll-BoundQuery Expr Joining Query Exprs From Link Grouping Query
      (call_node s) item_step query_step row_step source_step link_step grouping_step select_step x

  abbrev pub row_inside : RowLayer → BoundRow-F Expr Joining Query Exprs From Link Grouping Query
  row_inside x = map-BoundRow BoundExpr BoundFromItem BoundQuery BoundRow BoundSource BoundLink
      BoundGrouping BoundSelect Expr Joining Query Exprs From Link Grouping Query (expr_by s)
      (item_by s) (query_by s) (row_by s) (source_by s) (link_by s) (grouping_by s)
      (select_by s) x

  pub row_by-at : (x : RowLayer) → row_by s (roll-BoundRow x) ≡ row_step (row_inside x)
  row_by-at x = fold-roll-BoundRow Expr Joining Query Exprs From Link Grouping Query
      (call_node s) item_step query_step row_step source_step link_step grouping_step select_step x

  abbrev pub source_inside : SourceLayer → BoundSource-F Expr Joining Query Exprs From Link Grouping
      Query
  source_inside x = map-BoundSource BoundExpr BoundFromItem BoundQuery BoundRow BoundSource
      BoundLink
      BoundGrouping BoundSelect Expr Joining Query Exprs From Link Grouping Query (expr_by s)
      (item_by s) (query_by s) (row_by s) (source_by s) (link_by s) (grouping_by s)
      (select_by s) x

  pub source_by-at : (x : SourceLayer) → source_by s (roll-BoundSource x) ≡ source_step
      (source_inside x)
  source_by-at x = fold-roll-BoundSource Expr Joining Query Exprs From Link Grouping Query
      (call_node s) item_step query_step row_step source_step link_step grouping_step select_step x

  abbrev pub link_inside : LinkLayer → BoundLink-F Expr Joining Query Exprs From Link Grouping Query
  link_inside x = map-BoundLink BoundExpr BoundFromItem BoundQuery BoundRow BoundSource BoundLink
      BoundGrouping BoundSelect Expr Joining Query Exprs From Link Grouping Query (expr_by s)
      (item_by s) (query_by s) (row_by s) (source_by s) (link_by s) (grouping_by s)
      (select_by s) x

  pub link_by-at : (x : LinkLayer) → link_by s (roll-BoundLink x) ≡ link_step (link_inside x)
  link_by-at x = fold-roll-BoundLink Expr Joining Query Exprs From Link Grouping Query
      (call_node s) item_step query_step row_step source_step link_step grouping_step select_step x

  abbrev pub grouping_inside : GroupingLayer → BoundGrouping-F Expr Joining Query Exprs From Link
      Grouping Query
  grouping_inside x = map-BoundGrouping BoundExpr BoundFromItem BoundQuery BoundRow BoundSource
      BoundLink BoundGrouping BoundSelect Expr Joining Query Exprs From Link Grouping Query
      (expr_by s) (item_by s) (query_by s) (row_by s) (source_by s) (link_by s)
      (grouping_by s)
      (select_by s) x

  pub grouping_by-at : (x : GroupingLayer) → grouping_by s (roll-BoundGrouping x) ≡
      grouping_step
      (grouping_inside x)
  grouping_by-at x = fold-roll-BoundGrouping Expr Joining Query Exprs From Link Grouping Query
      (call_node s) item_step query_step row_step source_step link_step grouping_step select_step x

  abbrev pub select_inside : SelectLayer → BoundSelect-F Expr Joining Query Exprs From Link Grouping
      Query
  select_inside x = map-BoundSelect BoundExpr BoundFromItem BoundQuery BoundRow BoundSource
      BoundLink
      BoundGrouping BoundSelect Expr Joining Query Exprs From Link Grouping Query (expr_by s)
      (item_by s) (query_by s) (row_by s) (source_by s) (link_by s) (grouping_by s)
      (select_by s) x

  pub select_by-at : (x : SelectLayer) → select_by s (roll-BoundSelect x) ≡ select_step
      (select_inside x)
  select_by-at x = fold-roll-BoundSelect Expr Joining Query Exprs From Link Grouping Query
      (call_node s) item_step query_step row_step source_step link_step grouping_step select_step x

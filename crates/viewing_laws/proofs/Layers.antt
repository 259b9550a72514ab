-- One layer of each kind of bound tree: its view, and of statements also what it calls, from those
-- of the trees in it.
use Rattle.std.proofs.Common.{◌≡◌}
use Rattle.bound_trees.specs.declared.expr.BoundExpr.{BoundExpr, roll-BoundExpr}
use Rattle.bound_trees.specs.declared.expr.BoundExpr.TheOpen.{BoundExpr-F, BoundFromItem-F}
use Rattle.bound_trees.specs.declared.expr.BoundExpr.TheOpen.{BoundQuery-F, BoundRow-F}
use Rattle.bound_trees.specs.declared.expr.BoundExpr.TheOpen.{BoundSource-F, BoundLink-F}
use Rattle.bound_trees.specs.declared.expr.BoundExpr.TheOpen.{BoundGrouping-F, BoundSelect-F}
use Rattle.bound_trees.specs.declared.expr.BoundExpr.TheFolds.{map-BoundExpr, map-BoundFromItem}
use Rattle.bound_trees.specs.declared.expr.BoundExpr.TheFolds.{map-BoundQuery, map-BoundRow}
use Rattle.bound_trees.specs.declared.expr.BoundExpr.TheFolds.{map-BoundSource, map-BoundLink}
use Rattle.bound_trees.specs.declared.expr.BoundExpr.TheFolds.{map-BoundGrouping, map-BoundSelect}
use Rattle.bound_trees.specs.declared.expr.BoundExpr.TheFolds.{fold-roll-BoundExpr}
use Rattle.bound_trees.specs.declared.expr.BoundExpr.TheFolds.{fold-roll-BoundFromItem}
use Rattle.bound_trees.specs.declared.expr.BoundExpr.TheFolds.{fold-roll-BoundQuery}
use Rattle.bound_trees.specs.declared.expr.BoundExpr.TheFolds.{fold-roll-BoundRow}
use Rattle.bound_trees.specs.declared.expr.BoundExpr.TheFolds.{fold-roll-BoundSource}
use Rattle.bound_trees.specs.declared.expr.BoundExpr.TheFolds.{fold-roll-BoundLink}
use Rattle.bound_trees.specs.declared.expr.BoundExpr.TheFolds.{fold-roll-BoundGrouping}
use Rattle.bound_trees.specs.declared.expr.BoundExpr.TheFolds.{fold-roll-BoundSelect}
use Rattle.bound_trees.specs.declared.expr.BoundLink.{BoundLink, roll-BoundLink, fold-BoundLink}
use Rattle.bound_trees.specs.declared.query.BoundFromItem.{BoundFromItem, roll-BoundFromItem}
use Rattle.bound_trees.specs.declared.query.BoundFromItem.{fold-BoundFromItem}
use Rattle.bound_trees.specs.declared.query.BoundGrouping.{BoundGrouping, roll-BoundGrouping}
use Rattle.bound_trees.specs.declared.query.BoundGrouping.{fold-BoundGrouping}
use Rattle.bound_trees.specs.declared.query.BoundQuery.{BoundQuery, roll-BoundQuery}
use Rattle.bound_trees.specs.declared.query.BoundRow.{BoundRow, roll-BoundRow, fold-BoundRow}
use Rattle.bound_trees.specs.declared.query.BoundSelect.{BoundSelect, roll-BoundSelect}
use Rattle.bound_trees.specs.declared.query.BoundSelect.{fold-BoundSelect}
use Rattle.bound_trees.specs.declared.query.BoundSource.{BoundSource, roll-BoundSource}
use Rattle.bound_trees.specs.declared.query.BoundSource.{fold-BoundSource}
use Rattle.bound_trees.specs.declared.statement.BoundBlock.{BoundBlock, roll-BoundBlock}
use Rattle.bound_trees.specs.declared.statement.BoundBranch.{BoundBranch, roll-BoundBranch}
use Rattle.bound_trees.specs.declared.statement.BoundBranch.{fold-BoundBranch}
use Rattle.bound_trees.specs.declared.statement.BoundHandler.{BoundHandler, roll-BoundHandler}
use Rattle.bound_trees.specs.declared.statement.BoundHandler.{fold-BoundHandler}
use Rattle.bound_trees.specs.declared.statement.BoundStmt.{BoundStmt, roll-BoundStmt}
use Rattle.bound_trees.specs.declared.statement.BoundStmt.TheFolds.{map-BoundStmt, map-BoundBlock}
use Rattle.bound_trees.specs.declared.statement.BoundStmt.TheFolds.{map-BoundBranch}
use Rattle.bound_trees.specs.declared.statement.BoundStmt.TheFolds.{map-BoundHandler}
use Rattle.bound_trees.specs.declared.statement.BoundStmt.TheFolds.{fold-roll-BoundStmt}
use Rattle.bound_trees.specs.declared.statement.BoundStmt.TheFolds.{fold-roll-BoundBlock}
use Rattle.bound_trees.specs.declared.statement.BoundStmt.TheFolds.{fold-roll-BoundBranch}
use Rattle.bound_trees.specs.declared.statement.BoundStmt.TheFolds.{fold-roll-BoundHandler}
use Rattle.bound_trees.specs.declared.statement.BoundStmt.TheOpen.{BoundStmt-F, BoundBlock-F}
use Rattle.bound_trees.specs.declared.statement.BoundStmt.TheOpen.{BoundBranch-F, BoundHandler-F}
use Rattle.rel_algebra.specs.Tree.{Expr, Exprs, From, Query}
use Rattle.catalog_store.specs.View.{Joining, Grouping, Link, item_step, query_step}
use Rattle.catalog_store.specs.View.{row_step, source_step, link_step, grouping_step, select_step}
use Rattle.catalog_store.proofs.Laws.{ExprLayer, ItemLayer, QueryLayer, RowLayer, SourceLayer}
use Rattle.catalog_store.proofs.Laws.{LinkLayer, GroupingLayer, SelectLayer}
use Rattle.routine_views.specs.Views.{Known, View, BranchView, HandlerView, expr_node, expr_in}
use Rattle.routine_views.specs.Views.{query_in, stmt_view, block_view, branch_view, handler_view}
use Rattle.routine_views.specs.Views.{stmt_in, block_in}
use Rattle.viewing_laws.specs.Calls.{CalledNames, stmt_calls, block_calls, branch_calls}
use Rattle.viewing_laws.specs.Calls.{handler_calls, statement_calls, calls_of_block}
use Rattle.viewing_laws.specs.Calls.{calls_of_branch, calls_of_handler}

-- ---- what is called

abbrev pub StmtLayer : Type 0
StmtLayer = BoundStmt-F BoundStmt BoundBlock BoundBranch BoundHandler

abbrev pub BlockLayer : Type 0
BlockLayer = BoundBlock-F BoundStmt BoundBlock BoundBranch BoundHandler

abbrev pub BranchLayer : Type 0
BranchLayer = BoundBranch-F BoundStmt BoundBlock BoundBranch BoundHandler

abbrev pub HandlerLayer : Type 0
HandlerLayer = BoundHandler-F BoundStmt BoundBlock BoundBranch BoundHandler

abbrev pub stmt_called : StmtLayer → BoundStmt-F CalledNames CalledNames CalledNames CalledNames
stmt_called x = map-BoundStmt BoundStmt BoundBlock BoundBranch BoundHandler CalledNames CalledNames
    CalledNames CalledNames statement_calls calls_of_block calls_of_branch calls_of_handler x

pub statement_calls-at : (x : StmtLayer) →
    statement_calls (roll-BoundStmt x) ≡ stmt_calls (stmt_called x)
statement_calls-at x = fold-roll-BoundStmt CalledNames CalledNames CalledNames CalledNames
    stmt_calls block_calls branch_calls handler_calls x

abbrev pub block_called : BlockLayer → BoundBlock-F CalledNames CalledNames CalledNames CalledNames
block_called x = map-BoundBlock BoundStmt BoundBlock BoundBranch BoundHandler CalledNames
    CalledNames CalledNames CalledNames statement_calls calls_of_block calls_of_branch
    calls_of_handler x

pub calls_of_block-at : (x : BlockLayer) →
    calls_of_block (roll-BoundBlock x) ≡ block_calls (block_called x)
calls_of_block-at x = fold-roll-BoundBlock CalledNames CalledNames CalledNames CalledNames
    stmt_calls block_calls branch_calls handler_calls x

abbrev pub branch_called : BranchLayer →
    BoundBranch-F CalledNames CalledNames CalledNames CalledNames
branch_called x = map-BoundBranch BoundStmt BoundBlock BoundBranch BoundHandler CalledNames
    CalledNames CalledNames CalledNames statement_calls calls_of_block calls_of_branch
    calls_of_handler x

pub calls_of_branch-at : (x : BranchLayer) →
    calls_of_branch (roll-BoundBranch x) ≡ branch_calls (branch_called x)
calls_of_branch-at x = fold-roll-BoundBranch CalledNames CalledNames CalledNames CalledNames
    stmt_calls block_calls branch_calls handler_calls x

abbrev pub handler_called : HandlerLayer →
    BoundHandler-F CalledNames CalledNames CalledNames CalledNames
handler_called x = map-BoundHandler BoundStmt BoundBlock BoundBranch BoundHandler CalledNames
    CalledNames CalledNames CalledNames statement_calls calls_of_block calls_of_branch
    calls_of_handler x

pub calls_of_handler-at : (x : HandlerLayer) →
    calls_of_handler (roll-BoundHandler x) ≡ handler_calls (handler_called x)
calls_of_handler-at x = fold-roll-BoundHandler CalledNames CalledNames CalledNames CalledNames
    stmt_calls block_calls branch_calls handler_calls x

module _ (k : Known) where
  -- ---- views of the parts of queries

  abbrev pub item_in : BoundFromItem → Joining
  item_in = fold-BoundFromItem Expr Joining Query Exprs From Link Grouping Query (expr_node k)
      item_step query_step row_step source_step link_step grouping_step select_step

  abbrev pub row_in : BoundRow → Exprs
  row_in = fold-BoundRow Expr Joining Query Exprs From Link Grouping Query (expr_node k)
      item_step query_step row_step source_step link_step grouping_step select_step

  abbrev pub source_in : BoundSource → From
  source_in = fold-BoundSource Expr Joining Query Exprs From Link Grouping Query (expr_node k)
      item_step query_step row_step source_step link_step grouping_step select_step

  abbrev pub link_in : BoundLink → Link
  link_in = fold-BoundLink Expr Joining Query Exprs From Link Grouping Query (expr_node k)
      item_step query_step row_step source_step link_step grouping_step select_step

  abbrev pub grouping_in : BoundGrouping → Grouping
  grouping_in = fold-BoundGrouping Expr Joining Query Exprs From Link Grouping Query (expr_node k)
      item_step query_step row_step source_step link_step grouping_step select_step

  abbrev pub select_in : BoundSelect → Query
  select_in = fold-BoundSelect Expr Joining Query Exprs From Link Grouping Query (expr_node k)
      item_step query_step row_step source_step link_step grouping_step select_step

  -- ---- layers of expressions and queries

  abbrev pub expr_seen : ExprLayer → BoundExpr-F Expr Joining Query Exprs From Link Grouping Query
  expr_seen x = map-BoundExpr BoundExpr BoundFromItem BoundQuery BoundRow BoundSource BoundLink
      BoundGrouping BoundSelect Expr Joining Query Exprs From Link Grouping Query (expr_in k)
      item_in (query_in k) row_in source_in link_in grouping_in select_in x

  pub expr_in-at : (x : ExprLayer) → expr_in k (roll-BoundExpr x) ≡ expr_node k (expr_seen x)
  expr_in-at x = fold-roll-BoundExpr Expr Joining Query Exprs From Link Grouping Query
      (expr_node k) item_step query_step row_step source_step link_step grouping_step select_step x

  abbrev pub item_seen : ItemLayer → BoundFromItem-F Expr Joining Query Exprs From Link Grouping
      Query
  item_seen x = map-BoundFromItem BoundExpr BoundFromItem BoundQuery BoundRow BoundSource BoundLink
      BoundGrouping BoundSelect Expr Joining Query Exprs From Link Grouping Query (expr_in k)
      item_in (query_in k) row_in source_in link_in grouping_in select_in x

  pub item_in-at : (x : ItemLayer) → item_in (roll-BoundFromItem x) ≡ item_step (item_seen x)
  item_in-at x = fold-roll-BoundFromItem Expr Joining Query Exprs From Link Grouping Query
      (expr_node k) item_step query_step row_step source_step link_step grouping_step select_step x

  abbrev pub query_seen : QueryLayer → BoundQuery-F Expr Joining Query Exprs From Link Grouping
      Query
  query_seen x = map-BoundQuery BoundExpr BoundFromItem BoundQuery BoundRow BoundSource BoundLink
      BoundGrouping BoundSelect Expr Joining Query Exprs From Link Grouping Query (expr_in k)
      item_in (query_in k) row_in source_in link_in grouping_in select_in x

  pub query_in-at : (x : QueryLayer) → query_in k (roll-BoundQuery x) ≡ query_step (query_seen x)
  query_in-at x = fold-roll-BoundQuery Expr Joining Query Exprs From Link Grouping Query
      (expr_node k) item_step query_step row_step source_step link_step grouping_step select_step x

  abbrev pub row_seen : RowLayer → BoundRow-F Expr Joining Query Exprs From Link Grouping Query
  row_seen x = map-BoundRow BoundExpr BoundFromItem BoundQuery BoundRow BoundSource BoundLink
      BoundGrouping BoundSelect Expr Joining Query Exprs From Link Grouping Query (expr_in k)
      item_in (query_in k) row_in source_in link_in grouping_in select_in x

  pub row_in-at : (x : RowLayer) → row_in (roll-BoundRow x) ≡ row_step (row_seen x)
  row_in-at x = fold-roll-BoundRow Expr Joining Query Exprs From Link Grouping Query
      (expr_node k) item_step query_step row_step source_step link_step grouping_step select_step x

  abbrev pub source_seen : SourceLayer → BoundSource-F Expr Joining Query Exprs From Link Grouping
      Query
  source_seen x = map-BoundSource BoundExpr BoundFromItem BoundQuery BoundRow BoundSource BoundLink
      BoundGrouping BoundSelect Expr Joining Query Exprs From Link Grouping Query (expr_in k)
      item_in (query_in k) row_in source_in link_in grouping_in select_in x

  pub source_in-at : (x : SourceLayer) → source_in (roll-BoundSource x) ≡
      source_step (source_seen x)
  source_in-at x = fold-roll-BoundSource Expr Joining Query Exprs From Link Grouping Query
      (expr_node k) item_step query_step row_step source_step link_step grouping_step select_step x

  abbrev pub link_seen : LinkLayer → BoundLink-F Expr Joining Query Exprs From Link Grouping Query
  link_seen x = map-BoundLink BoundExpr BoundFromItem BoundQuery BoundRow BoundSource BoundLink
      BoundGrouping BoundSelect Expr Joining Query Exprs From Link Grouping Query (expr_in k)
      item_in (query_in k) row_in source_in link_in grouping_in select_in x

  pub link_in-at : (x : LinkLayer) → link_in (roll-BoundLink x) ≡ link_step (link_seen x)
  link_in-at x = fold-roll-BoundLink Expr Joining Query Exprs From Link Grouping Query
      (expr_node k) item_step query_step row_step source_step link_step grouping_step select_step x

  abbrev pub grouping_seen : GroupingLayer → BoundGrouping-F Expr Joining Query Exprs From Link
      Grouping Query
  grouping_seen x = map-BoundGrouping BoundExpr BoundFromItem BoundQuery BoundRow BoundSource
      BoundLink
      BoundGrouping BoundSelect Expr Joining Query Exprs From Link Grouping Query (expr_in k)
      item_in (query_in k) row_in source_in link_in grouping_in select_in x

  pub grouping_in-at : (x : GroupingLayer) → grouping_in (roll-BoundGrouping x) ≡
      grouping_step (grouping_seen x)
  grouping_in-at x = fold-roll-BoundGrouping Expr Joining Query Exprs From Link Grouping Query
      (expr_node k) item_step query_step row_step source_step link_step grouping_step select_step x

  abbrev pub select_seen : SelectLayer → BoundSelect-F Expr Joining Query Exprs From Link Grouping
      Query
  select_seen x = map-BoundSelect BoundExpr BoundFromItem BoundQuery BoundRow BoundSource BoundLink
      BoundGrouping BoundSelect Expr Joining Query Exprs From Link Grouping Query (expr_in k)
      item_in (query_in k) row_in source_in link_in grouping_in select_in x

  pub select_in-at : (x : SelectLayer) → select_in (roll-BoundSelect x) ≡
      select_step (select_seen x)
  select_in-at x = fold-roll-BoundSelect Expr Joining Query Exprs From Link Grouping Query
      (expr_node k) item_step query_step row_step source_step link_step grouping_step select_step x

  -- ---- layers of statements

  abbrev pub branch_in : BoundBranch → BranchView
  branch_in = fold-BoundBranch View View BranchView HandlerView (stmt_view k) (block_view k)
      (branch_view k) handler_view

  abbrev pub handler_in : BoundHandler → HandlerView
  handler_in = fold-BoundHandler View View BranchView HandlerView (stmt_view k) (block_view k)
      (branch_view k) handler_view

  abbrev pub stmt_seen : StmtLayer → BoundStmt-F View View BranchView HandlerView
  stmt_seen x = map-BoundStmt BoundStmt BoundBlock BoundBranch BoundHandler View View BranchView
      HandlerView (stmt_in k) (block_in k) branch_in handler_in x

  pub stmt_in-at : (x : StmtLayer) → stmt_in k (roll-BoundStmt x) ≡ stmt_view k (stmt_seen x)
  stmt_in-at x = fold-roll-BoundStmt View View BranchView HandlerView (stmt_view k) (block_view k)
      (branch_view k) handler_view x

  abbrev pub block_seen : BlockLayer → BoundBlock-F View View BranchView HandlerView
  block_seen x = map-BoundBlock BoundStmt BoundBlock BoundBranch BoundHandler View View BranchView
      HandlerView (stmt_in k) (block_in k) branch_in handler_in x

  pub block_in-at : (x : BlockLayer) → block_in k (roll-BoundBlock x) ≡ block_view k (block_seen x)
  block_in-at x = fold-roll-BoundBlock View View BranchView HandlerView (stmt_view k) (block_view k)
      (branch_view k) handler_view x

  abbrev pub branch_seen : BranchLayer → BoundBranch-F View View BranchView HandlerView
  branch_seen x = map-BoundBranch BoundStmt BoundBlock BoundBranch BoundHandler View View BranchView
      HandlerView (stmt_in k) (block_in k) branch_in handler_in x

  pub branch_in-at : (x : BranchLayer) → branch_in (roll-BoundBranch x) ≡
      branch_view k (branch_seen x)
  branch_in-at x = fold-roll-BoundBranch View View BranchView HandlerView (stmt_view k) (block_view
      k)
      (branch_view k) handler_view x

  abbrev pub handler_seen : HandlerLayer → BoundHandler-F View View BranchView HandlerView
  handler_seen x = map-BoundHandler BoundStmt BoundBlock BoundBranch BoundHandler View View
      BranchView
      HandlerView (stmt_in k) (block_in k) branch_in handler_in x

  pub handler_in-at : (x : HandlerLayer) → handler_in (roll-BoundHandler x) ≡
      handler_view (handler_seen x)
  handler_in-at x = fold-roll-BoundHandler View View BranchView HandlerView (stmt_view k)
      (block_view k)
      (branch_view k) handler_view x

-- Which plain tree a bound tree stands for where blocks have plans: a call stands for the tree of
-- the routine that it runs.
use Rattle.std.specs.Prelude.{List, map, length}
use Rattle.bound_trees.specs.declared.expr.BoundExpr.{BoundExpr, fold-BoundExpr}
use Rattle.bound_trees.specs.declared.expr.BoundExpr.TheOpen.{BoundExpr-F}
use Rattle.bound_trees.specs.declared.expr.BoundLink.{BoundLink, fold-BoundLink}
use Rattle.bound_trees.specs.declared.query.BoundFromItem.{BoundFromItem, fold-BoundFromItem}
use Rattle.bound_trees.specs.declared.query.BoundQuery.{BoundQuery, fold-BoundQuery}
use Rattle.bound_trees.specs.declared.query.BoundGrouping.{BoundGrouping, fold-BoundGrouping}
use Rattle.bound_trees.specs.declared.query.BoundRow.{BoundRow, fold-BoundRow}
use Rattle.bound_trees.specs.declared.query.BoundSelect.{BoundSelect, fold-BoundSelect}
use Rattle.bound_trees.specs.declared.query.BoundSource.{BoundSource, fold-BoundSource}
use Rattle.rel_algebra.specs.Tree.{Expr, Call, Links, Exprs, Rows, From, Query}
use Rattle.catalog_store.specs.View.{Link, Grouping, Joining, links, exprs, rows, expr_step}
use Rattle.catalog_store.specs.View.{item_step, query_step, row_step, source_step, link_step}
use Rattle.catalog_store.specs.View.{grouping_step, select_step}
use Rattle.block_plans.specs.Callees.{Callees, callee}

-- a node of an expression, once its operands and queries are plain trees; only a call looks beyond
-- the catalog
abbrev pub call_step : Callees → BoundExpr-F Expr Joining Query Exprs From Link Grouping Query →
    Expr
call_step k (BoundExpr-F.Call name args) = Call name (callee k name (length args)) (exprs args)
call_step k x = expr_step k.known x

-- ---- whole trees

-- the plain expression that a bound one stands for, where its calls run these
abbrev pub expr_seen : Callees → BoundExpr → Expr
expr_seen k = fold-BoundExpr Expr Joining Query Exprs From Link Grouping Query (call_step k)
    item_step query_step row_step source_step link_step grouping_step select_step

-- the plain item of FROM
abbrev pub item_seen : Callees → BoundFromItem → Joining
item_seen k = fold-BoundFromItem Expr Joining Query Exprs From Link Grouping Query
    (call_step k) item_step query_step row_step source_step link_step grouping_step select_step

-- the plain query
abbrev pub query_seen : Callees → BoundQuery → Query
query_seen k = fold-BoundQuery Expr Joining Query Exprs From Link Grouping Query (call_step k)
    item_step query_step row_step source_step link_step grouping_step select_step

-- the plain row of VALUES
abbrev pub row_seen : Callees → BoundRow → Exprs
row_seen k = fold-BoundRow Expr Joining Query Exprs From Link Grouping Query (call_step k)
    item_step query_step row_step source_step link_step grouping_step select_step

-- the plain table or derived table
abbrev pub source_seen : Callees → BoundSource → From
source_seen k = fold-BoundSource Expr Joining Query Exprs From Link Grouping Query
    (call_step k) item_step query_step row_step source_step link_step grouping_step select_step

-- the plain grouping
abbrev pub grouping_seen : Callees → BoundGrouping → Grouping
grouping_seen k = fold-BoundGrouping Expr Joining Query Exprs From Link Grouping Query
    (call_step k) item_step query_step row_step source_step link_step grouping_step select_step

-- the plain link of a chain
abbrev pub link_seen : Callees → BoundLink → Link
link_seen k = fold-BoundLink Expr Joining Query Exprs From Link Grouping Query (call_step k)
    item_step query_step row_step source_step link_step grouping_step select_step

-- the plain query that a bound select stands for
abbrev pub select_seen : Callees → BoundSelect → Query
select_seen k = fold-BoundSelect Expr Joining Query Exprs From Link Grouping Query
    (call_step k) item_step query_step row_step source_step link_step grouping_step select_step

-- plain expressions in a row
abbrev pub exprs_seen : Callees → List BoundExpr → Exprs
exprs_seen k es = exprs (map (expr_seen k) es)

-- plain links of a chain
abbrev pub links_seen : Callees → List BoundLink → Links
links_seen k ls = links (map (link_seen k) ls)

-- plain rows of VALUES
abbrev pub rows_seen : Callees → List BoundRow → Rows
rows_seen k rs = rows (map (row_seen k) rs)

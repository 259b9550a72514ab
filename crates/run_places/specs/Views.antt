-- Which plain trees the parts of a bound query stand for, where calls are of the routines that are
-- known: `expr_in` and `query_in` of routine_views, for the other kinds of trees and for lists.
use Rattle.std.specs.Prelude.{List, map}
use Rattle.bound_trees.specs.declared.expr.BoundExpr.{BoundExpr}
use Rattle.bound_trees.specs.declared.expr.BoundLink.{BoundLink, fold-BoundLink}
use Rattle.bound_trees.specs.declared.query.BoundFromItem.{BoundFromItem, fold-BoundFromItem}
use Rattle.bound_trees.specs.declared.query.BoundGrouping.{BoundGrouping, fold-BoundGrouping}
use Rattle.bound_trees.specs.declared.query.BoundRow.{BoundRow, fold-BoundRow}
use Rattle.bound_trees.specs.declared.query.BoundSelect.{BoundSelect, fold-BoundSelect}
use Rattle.bound_trees.specs.declared.query.BoundSource.{BoundSource, fold-BoundSource}
use Rattle.rel_algebra.specs.Tree.{Expr, Exprs, From, Links, Query, Rows}
use Rattle.catalog_store.specs.View.{Joining, Grouping, Link, exprs, links, rows}
use Rattle.catalog_store.specs.View.{item_step, query_step, row_step, source_step, link_step}
use Rattle.catalog_store.specs.View.{grouping_step, select_step}
use Rattle.routine_views.specs.Views.{Known, expr_node, expr_in}

-- the plain item of FROM
abbrev pub item_in : Known → BoundFromItem → Joining
item_in k = fold-BoundFromItem Expr Joining Query Exprs From Link Grouping Query (expr_node k)
    item_step query_step row_step source_step link_step grouping_step select_step

-- the plain row of VALUES
abbrev pub row_in : Known → BoundRow → Exprs
row_in k = fold-BoundRow Expr Joining Query Exprs From Link Grouping Query (expr_node k) item_step
    query_step row_step source_step link_step grouping_step select_step

-- the plain table or derived table
abbrev pub source_in : Known → BoundSource → From
source_in k = fold-BoundSource Expr Joining Query Exprs From Link Grouping Query (expr_node k)
    item_step query_step row_step source_step link_step grouping_step select_step

-- the plain grouping
abbrev pub grouping_in : Known → BoundGrouping → Grouping
grouping_in k = fold-BoundGrouping Expr Joining Query Exprs From Link Grouping Query (expr_node k)
    item_step query_step row_step source_step link_step grouping_step select_step

-- the plain link of a chain
abbrev pub link_in : Known → BoundLink → Link
link_in k = fold-BoundLink Expr Joining Query Exprs From Link Grouping Query (expr_node k) item_step
    query_step row_step source_step link_step grouping_step select_step

-- the plain query that a bound select stands for
abbrev pub select_in : Known → BoundSelect → Query
select_in k = fold-BoundSelect Expr Joining Query Exprs From Link Grouping Query (expr_node k)
    item_step query_step row_step source_step link_step grouping_step select_step

-- plain expressions in a row
abbrev pub exprs_in : Known → List BoundExpr → Exprs
exprs_in k es = exprs (map (expr_in k) es)

-- plain links of a chain
abbrev pub links_in : Known → List BoundLink → Links
links_in k ls = links (map (link_in k) ls)

-- plain rows of VALUES
abbrev pub rows_in : Known → List BoundRow → Rows
rows_in k rs = rows (map (row_in k) rs)

-- One layer of each sort of bound tree: its plain tree, from those of the trees in it.
use Rattle.bound_trees.specs.declared.expr.BoundExpr.{BoundExpr}
use Rattle.bound_trees.specs.declared.query.BoundFromItem.{BoundFromItem}
use Rattle.bound_trees.specs.declared.query.BoundQuery.{BoundQuery}
use Rattle.bound_trees.specs.declared.query.BoundRow.{BoundRow}
use Rattle.bound_trees.specs.declared.query.BoundSource.{BoundSource}
use Rattle.bound_trees.specs.declared.expr.BoundLink.{BoundLink}
use Rattle.bound_trees.specs.declared.query.BoundGrouping.{BoundGrouping}
use Rattle.bound_trees.specs.declared.query.BoundSelect.{BoundSelect}
use Rattle.bound_trees.specs.declared.expr.BoundExpr.TheOpen.{BoundExpr-F, BoundFromItem-F}
use Rattle.bound_trees.specs.declared.expr.BoundExpr.TheOpen.{BoundQuery-F, BoundRow-F}
use Rattle.bound_trees.specs.declared.expr.BoundExpr.TheOpen.{BoundSource-F, BoundLink-F}
use Rattle.bound_trees.specs.declared.expr.BoundExpr.TheOpen.{BoundGrouping-F, BoundSelect-F}
use Rattle.bound_trees.specs.declared.expr.BoundExpr.TheFolds.{map-BoundExpr, map-BoundFromItem}
use Rattle.bound_trees.specs.declared.expr.BoundExpr.TheFolds.{map-BoundQuery, map-BoundRow}
use Rattle.bound_trees.specs.declared.expr.BoundExpr.TheFolds.{map-BoundSource, map-BoundLink}
use Rattle.bound_trees.specs.declared.expr.BoundExpr.TheFolds.{map-BoundGrouping, map-BoundSelect}
use Rattle.rel_algebra.specs.Tree.{Expr, Exprs, From, Query}
use Rattle.catalog_store.specs.Catalog.{Catalog}
use Rattle.catalog_store.specs.View.{Joining, Grouping, Link, tree_of, item_of, query_of, row_of}
use Rattle.catalog_store.specs.View.{source_of, link_of, grouping_of, select_of}
pub use Rattle.typing_trees.proofs.Laws.{ExprLayer, ItemLayer, QueryLayer, RowLayer, SourceLayer}
pub use Rattle.typing_trees.proofs.Laws.{LinkLayer, GroupingLayer, SelectLayer}
pub use Rattle.typing_trees.proofs.Laws.{expr_kinded, item_kinded, query_kinded, row_kinded}
pub use Rattle.typing_trees.proofs.Laws.{source_kinded, link_kinded, grouping_kinded, select_kinded}
pub use Rattle.typing_trees.proofs.Laws.{kind_of-at, kinds_of_item-at, kinds_of_query-at}
pub use Rattle.typing_trees.proofs.Laws.{exprs_of_row-at, kinds_of_source-at, kind_of_link-at}
pub use Rattle.typing_trees.proofs.Laws.{kinds_of_grouping-at, kinds_of_select-at}

module _ (known : Catalog) where
  abbrev pub expr_seen : ExprLayer → BoundExpr-F Expr Joining Query Exprs From Link Grouping Query
  expr_seen y = map-BoundExpr BoundExpr BoundFromItem BoundQuery BoundRow BoundSource BoundLink
      BoundGrouping BoundSelect Expr Joining Query Exprs From Link Grouping Query (tree_of known)
      (item_of known) (query_of known) (row_of known) (source_of known) (link_of known) (grouping_of
      known) (select_of known) y

  abbrev pub item_seen : ItemLayer → BoundFromItem-F Expr Joining Query Exprs From Link Grouping
      Query
  item_seen y = map-BoundFromItem BoundExpr BoundFromItem BoundQuery BoundRow BoundSource BoundLink
      BoundGrouping BoundSelect Expr Joining Query Exprs From Link Grouping Query (tree_of known)
      (item_of known) (query_of known) (row_of known) (source_of known) (link_of known) (grouping_of
      known) (select_of known) y

  abbrev pub query_seen : QueryLayer → BoundQuery-F Expr Joining Query Exprs From Link Grouping
      Query
  query_seen y = map-BoundQuery BoundExpr BoundFromItem BoundQuery BoundRow BoundSource BoundLink
      BoundGrouping BoundSelect Expr Joining Query Exprs From Link Grouping Query (tree_of known)
      (item_of known) (query_of known) (row_of known) (source_of known) (link_of known) (grouping_of
      known) (select_of known) y

  abbrev pub row_seen : RowLayer → BoundRow-F Expr Joining Query Exprs From Link Grouping Query
  row_seen y = map-BoundRow BoundExpr BoundFromItem BoundQuery BoundRow BoundSource BoundLink
      BoundGrouping BoundSelect Expr Joining Query Exprs From Link Grouping Query (tree_of known)
      (item_of known) (query_of known) (row_of known) (source_of known) (link_of known) (grouping_of
      known) (select_of known) y

  abbrev pub source_seen : SourceLayer → BoundSource-F Expr Joining Query Exprs From Link Grouping
      Query
  source_seen y = map-BoundSource BoundExpr BoundFromItem BoundQuery BoundRow BoundSource BoundLink
      BoundGrouping BoundSelect Expr Joining Query Exprs From Link Grouping Query (tree_of known)
      (item_of known) (query_of known) (row_of known) (source_of known) (link_of known) (grouping_of
      known) (select_of known) y

  abbrev pub link_seen : LinkLayer → BoundLink-F Expr Joining Query Exprs From Link Grouping Query
  link_seen y = map-BoundLink BoundExpr BoundFromItem BoundQuery BoundRow BoundSource BoundLink
      BoundGrouping BoundSelect Expr Joining Query Exprs From Link Grouping Query (tree_of known)
      (item_of known) (query_of known) (row_of known) (source_of known) (link_of known) (grouping_of
      known) (select_of known) y

  abbrev pub grouping_seen : GroupingLayer → BoundGrouping-F Expr Joining Query Exprs From Link
      Grouping Query
  grouping_seen y = map-BoundGrouping BoundExpr BoundFromItem BoundQuery BoundRow BoundSource
      BoundLink BoundGrouping BoundSelect Expr Joining Query Exprs From Link Grouping Query (tree_of
      known) (item_of known) (query_of known) (row_of known) (source_of known) (link_of known)
      (grouping_of known) (select_of known) y

  abbrev pub select_seen : SelectLayer → BoundSelect-F Expr Joining Query Exprs From Link Grouping
      Query
  select_seen y = map-BoundSelect BoundExpr BoundFromItem BoundQuery BoundRow BoundSource BoundLink
      BoundGrouping BoundSelect Expr Joining Query Exprs From Link Grouping Query (tree_of known)
      (item_of known) (query_of known) (row_of known) (source_of known) (link_of known) (grouping_of
      known) (select_of known) y

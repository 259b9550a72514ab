-- One layer of each sort of bound tree without statements: its kinds, from those of the trees in it.
use Rattle.std.proofs.Common.{◌≡◌, List}
use Rattle.bound_trees.specs.declared.expr.BoundExpr.{BoundExpr, roll-BoundExpr}
use Rattle.bound_trees.specs.declared.query.BoundFromItem.{BoundFromItem, roll-BoundFromItem}
use Rattle.bound_trees.specs.declared.query.BoundQuery.{BoundQuery, roll-BoundQuery}
use Rattle.bound_trees.specs.declared.query.BoundRow.{BoundRow, roll-BoundRow}
use Rattle.bound_trees.specs.declared.query.BoundSource.{BoundSource, roll-BoundSource}
use Rattle.bound_trees.specs.declared.expr.BoundLink.{BoundLink, roll-BoundLink}
use Rattle.bound_trees.specs.declared.query.BoundGrouping.{BoundGrouping, roll-BoundGrouping}
use Rattle.bound_trees.specs.declared.query.BoundSelect.{BoundSelect, roll-BoundSelect}
use Rattle.bound_trees.specs.declared.expr.BoundExpr.TheOpen.{BoundExpr-F, BoundFromItem-F}
use Rattle.bound_trees.specs.declared.expr.BoundExpr.TheOpen.{BoundQuery-F, BoundRow-F}
use Rattle.bound_trees.specs.declared.expr.BoundExpr.TheOpen.{BoundSource-F, BoundLink-F}
use Rattle.bound_trees.specs.declared.expr.BoundExpr.TheOpen.{BoundGrouping-F, BoundSelect-F}
use Rattle.bound_trees.specs.declared.expr.BoundExpr.TheFolds.{map-BoundExpr, map-BoundFromItem}
use Rattle.bound_trees.specs.declared.expr.BoundExpr.TheFolds.{map-BoundQuery, map-BoundRow}
use Rattle.bound_trees.specs.declared.expr.BoundExpr.TheFolds.{map-BoundSource, map-BoundLink}
use Rattle.bound_trees.specs.declared.expr.BoundExpr.TheFolds.{map-BoundGrouping, map-BoundSelect}
use Rattle.bound_trees.specs.declared.expr.BoundExpr.TheFolds.{fold-roll-BoundExpr}
use Rattle.bound_trees.specs.declared.expr.BoundExpr.TheFolds.{fold-roll-BoundFromItem}
use Rattle.bound_trees.specs.declared.expr.BoundExpr.TheFolds.{fold-roll-BoundQuery}
use Rattle.bound_trees.specs.declared.expr.BoundExpr.TheFolds.{fold-roll-BoundRow}
use Rattle.bound_trees.specs.declared.expr.BoundExpr.TheFolds.{fold-roll-BoundSource}
use Rattle.bound_trees.specs.declared.expr.BoundExpr.TheFolds.{fold-roll-BoundLink}
use Rattle.bound_trees.specs.declared.expr.BoundExpr.TheFolds.{fold-roll-BoundGrouping}
use Rattle.bound_trees.specs.declared.expr.BoundExpr.TheFolds.{fold-roll-BoundSelect}
use Rattle.typing_trees.specs.Queries.{ExprKind, FromKinds, QueryKinds, LinkKind, GroupKinds}
use Rattle.typing_trees.specs.Queries.{expr_kind, item_kinds, query_kinds, row_exprs, source_kinds}
use Rattle.typing_trees.specs.Queries.{link_kind, group_kinds, select_kinds, kind_of, kinds_of_item}
use Rattle.typing_trees.specs.Queries.{kinds_of_query, exprs_of_row, kinds_of_source, kind_of_link}
use Rattle.typing_trees.specs.Queries.{kinds_of_grouping, kinds_of_select}

abbrev pub ExprLayer : Type 0
ExprLayer = BoundExpr-F BoundExpr BoundFromItem BoundQuery BoundRow BoundSource BoundLink
    BoundGrouping BoundSelect

abbrev pub ItemLayer : Type 0
ItemLayer = BoundFromItem-F BoundExpr BoundFromItem BoundQuery BoundRow BoundSource BoundLink
    BoundGrouping BoundSelect

abbrev pub QueryLayer : Type 0
QueryLayer = BoundQuery-F BoundExpr BoundFromItem BoundQuery BoundRow BoundSource BoundLink
    BoundGrouping BoundSelect

abbrev pub RowLayer : Type 0
RowLayer = BoundRow-F BoundExpr BoundFromItem BoundQuery BoundRow BoundSource BoundLink
    BoundGrouping BoundSelect

abbrev pub SourceLayer : Type 0
SourceLayer = BoundSource-F BoundExpr BoundFromItem BoundQuery BoundRow BoundSource BoundLink
    BoundGrouping BoundSelect

abbrev pub LinkLayer : Type 0
LinkLayer = BoundLink-F BoundExpr BoundFromItem BoundQuery BoundRow BoundSource BoundLink
    BoundGrouping BoundSelect

abbrev pub GroupingLayer : Type 0
GroupingLayer = BoundGrouping-F BoundExpr BoundFromItem BoundQuery BoundRow BoundSource BoundLink
    BoundGrouping BoundSelect

abbrev pub SelectLayer : Type 0
SelectLayer = BoundSelect-F BoundExpr BoundFromItem BoundQuery BoundRow BoundSource BoundLink
    BoundGrouping BoundSelect

abbrev pub expr_kinded : ExprLayer → BoundExpr-F ExprKind FromKinds QueryKinds (List ExprKind)
    QueryKinds LinkKind GroupKinds QueryKinds
expr_kinded y = map-BoundExpr BoundExpr BoundFromItem BoundQuery BoundRow BoundSource BoundLink
    BoundGrouping BoundSelect ExprKind FromKinds QueryKinds (List ExprKind) QueryKinds LinkKind
    GroupKinds QueryKinds kind_of kinds_of_item kinds_of_query exprs_of_row kinds_of_source
    kind_of_link kinds_of_grouping kinds_of_select y

pub kind_of-at : (y : ExprLayer) → kind_of (roll-BoundExpr y) ≡ expr_kind (expr_kinded y)
kind_of-at y = fold-roll-BoundExpr ExprKind FromKinds QueryKinds (List ExprKind) QueryKinds LinkKind
    GroupKinds QueryKinds expr_kind item_kinds query_kinds row_exprs source_kinds link_kind
    group_kinds select_kinds y

abbrev pub item_kinded : ItemLayer → BoundFromItem-F ExprKind FromKinds QueryKinds (List ExprKind)
    QueryKinds LinkKind GroupKinds QueryKinds
item_kinded y = map-BoundFromItem BoundExpr BoundFromItem BoundQuery BoundRow BoundSource BoundLink
    BoundGrouping BoundSelect ExprKind FromKinds QueryKinds (List ExprKind) QueryKinds LinkKind
    GroupKinds QueryKinds kind_of kinds_of_item kinds_of_query exprs_of_row kinds_of_source
    kind_of_link kinds_of_grouping kinds_of_select y

pub kinds_of_item-at : (y : ItemLayer) → kinds_of_item (roll-BoundFromItem y) ≡ item_kinds
    (item_kinded y)
kinds_of_item-at y = fold-roll-BoundFromItem ExprKind FromKinds QueryKinds (List ExprKind)
    QueryKinds LinkKind GroupKinds QueryKinds expr_kind item_kinds query_kinds row_exprs
    source_kinds link_kind group_kinds select_kinds y

abbrev pub query_kinded : QueryLayer → BoundQuery-F ExprKind FromKinds QueryKinds (List ExprKind)
    QueryKinds LinkKind GroupKinds QueryKinds
query_kinded y = map-BoundQuery BoundExpr BoundFromItem BoundQuery BoundRow BoundSource BoundLink
    BoundGrouping BoundSelect ExprKind FromKinds QueryKinds (List ExprKind) QueryKinds LinkKind
    GroupKinds QueryKinds kind_of kinds_of_item kinds_of_query exprs_of_row kinds_of_source
    kind_of_link kinds_of_grouping kinds_of_select y

pub kinds_of_query-at : (y : QueryLayer) → kinds_of_query (roll-BoundQuery y) ≡ query_kinds
    (query_kinded y)
kinds_of_query-at y = fold-roll-BoundQuery ExprKind FromKinds QueryKinds (List ExprKind) QueryKinds
    LinkKind GroupKinds QueryKinds expr_kind item_kinds query_kinds row_exprs source_kinds link_kind
    group_kinds select_kinds y

abbrev pub row_kinded : RowLayer → BoundRow-F ExprKind FromKinds QueryKinds (List ExprKind)
    QueryKinds LinkKind GroupKinds QueryKinds
row_kinded y = map-BoundRow BoundExpr BoundFromItem BoundQuery BoundRow BoundSource BoundLink
    BoundGrouping BoundSelect ExprKind FromKinds QueryKinds (List ExprKind) QueryKinds LinkKind
    GroupKinds QueryKinds kind_of kinds_of_item kinds_of_query exprs_of_row kinds_of_source
    kind_of_link kinds_of_grouping kinds_of_select y

pub exprs_of_row-at : (y : RowLayer) → exprs_of_row (roll-BoundRow y) ≡ row_exprs (row_kinded y)
exprs_of_row-at y = fold-roll-BoundRow ExprKind FromKinds QueryKinds (List ExprKind) QueryKinds
    LinkKind GroupKinds QueryKinds expr_kind item_kinds query_kinds row_exprs source_kinds link_kind
    group_kinds select_kinds y

abbrev pub source_kinded : SourceLayer → BoundSource-F ExprKind FromKinds QueryKinds (List ExprKind)
    QueryKinds LinkKind GroupKinds QueryKinds
source_kinded y = map-BoundSource BoundExpr BoundFromItem BoundQuery BoundRow BoundSource BoundLink
    BoundGrouping BoundSelect ExprKind FromKinds QueryKinds (List ExprKind) QueryKinds LinkKind
    GroupKinds QueryKinds kind_of kinds_of_item kinds_of_query exprs_of_row kinds_of_source
    kind_of_link kinds_of_grouping kinds_of_select y

pub kinds_of_source-at : (y : SourceLayer) → kinds_of_source (roll-BoundSource y) ≡ source_kinds
    (source_kinded y)
kinds_of_source-at y = fold-roll-BoundSource ExprKind FromKinds QueryKinds (List ExprKind)
    QueryKinds LinkKind GroupKinds QueryKinds expr_kind item_kinds query_kinds row_exprs
    source_kinds link_kind group_kinds select_kinds y

abbrev pub link_kinded : LinkLayer → BoundLink-F ExprKind FromKinds QueryKinds (List ExprKind)
    QueryKinds LinkKind GroupKinds QueryKinds
link_kinded y = map-BoundLink BoundExpr BoundFromItem BoundQuery BoundRow BoundSource BoundLink
    BoundGrouping BoundSelect ExprKind FromKinds QueryKinds (List ExprKind) QueryKinds LinkKind
    GroupKinds QueryKinds kind_of kinds_of_item kinds_of_query exprs_of_row kinds_of_source
    kind_of_link kinds_of_grouping kinds_of_select y

pub kind_of_link-at : (y : LinkLayer) → kind_of_link (roll-BoundLink y) ≡ link_kind (link_kinded y)
kind_of_link-at y = fold-roll-BoundLink ExprKind FromKinds QueryKinds (List ExprKind) QueryKinds
    LinkKind GroupKinds QueryKinds expr_kind item_kinds query_kinds row_exprs source_kinds link_kind
    group_kinds select_kinds y

abbrev pub grouping_kinded : GroupingLayer → BoundGrouping-F ExprKind FromKinds QueryKinds (List
    ExprKind) QueryKinds LinkKind GroupKinds QueryKinds
grouping_kinded y = map-BoundGrouping BoundExpr BoundFromItem BoundQuery BoundRow BoundSource
    BoundLink BoundGrouping BoundSelect ExprKind FromKinds QueryKinds (List ExprKind) QueryKinds
    LinkKind GroupKinds QueryKinds kind_of kinds_of_item kinds_of_query exprs_of_row kinds_of_source
    kind_of_link kinds_of_grouping kinds_of_select y

pub kinds_of_grouping-at : (y : GroupingLayer) → kinds_of_grouping (roll-BoundGrouping y) ≡
    group_kinds (grouping_kinded y)
kinds_of_grouping-at y = fold-roll-BoundGrouping ExprKind FromKinds QueryKinds (List ExprKind)
    QueryKinds LinkKind GroupKinds QueryKinds expr_kind item_kinds query_kinds row_exprs
    source_kinds link_kind group_kinds select_kinds y

abbrev pub select_kinded : SelectLayer → BoundSelect-F ExprKind FromKinds QueryKinds (List ExprKind)
    QueryKinds LinkKind GroupKinds QueryKinds
select_kinded y = map-BoundSelect BoundExpr BoundFromItem BoundQuery BoundRow BoundSource BoundLink
    BoundGrouping BoundSelect ExprKind FromKinds QueryKinds (List ExprKind) QueryKinds LinkKind
    GroupKinds QueryKinds kind_of kinds_of_item kinds_of_query exprs_of_row kinds_of_source
    kind_of_link kinds_of_grouping kinds_of_select y

pub kinds_of_select-at : (y : SelectLayer) → kinds_of_select (roll-BoundSelect y) ≡ select_kinds
    (select_kinded y)
kinds_of_select-at y = fold-roll-BoundSelect ExprKind FromKinds QueryKinds (List ExprKind)
    QueryKinds LinkKind GroupKinds QueryKinds expr_kind item_kinds query_kinds row_exprs
    source_kinds link_kind group_kinds select_kinds y

-- One layer of each sort of bound tree: its uses, and of statements also their names, from those of
-- the trees in it.
use Rattle.std.proofs.Common.{◌≡◌}
use Rattle.bound_trees.specs.declared.expr.BoundExpr.{BoundExpr}
use Rattle.bound_trees.specs.declared.expr.BoundExpr.TheOpen.{BoundExpr-F, BoundFromItem-F}
use Rattle.bound_trees.specs.declared.expr.BoundExpr.TheOpen.{BoundQuery-F, BoundRow-F}
use Rattle.bound_trees.specs.declared.expr.BoundExpr.TheOpen.{BoundSource-F, BoundLink-F}
use Rattle.bound_trees.specs.declared.expr.BoundExpr.TheOpen.{BoundGrouping-F, BoundSelect-F}
use Rattle.bound_trees.specs.declared.expr.BoundExpr.TheFolds.{map-BoundExpr, map-BoundFromItem}
use Rattle.bound_trees.specs.declared.expr.BoundExpr.TheFolds.{map-BoundQuery, map-BoundRow}
use Rattle.bound_trees.specs.declared.expr.BoundExpr.TheFolds.{map-BoundSource, map-BoundLink}
use Rattle.bound_trees.specs.declared.expr.BoundExpr.TheFolds.{map-BoundGrouping, map-BoundSelect}
use Rattle.bound_trees.specs.declared.expr.BoundLink.{BoundLink}
use Rattle.bound_trees.specs.declared.query.BoundFromItem.{BoundFromItem}
use Rattle.bound_trees.specs.declared.query.BoundGrouping.{BoundGrouping}
use Rattle.bound_trees.specs.declared.query.BoundQuery.{BoundQuery}
use Rattle.bound_trees.specs.declared.query.BoundRow.{BoundRow}
use Rattle.bound_trees.specs.declared.query.BoundSelect.{BoundSelect}
use Rattle.bound_trees.specs.declared.query.BoundSource.{BoundSource}
use Rattle.bound_trees.specs.declared.statement.BoundBlock.{BoundBlock, roll-BoundBlock}
use Rattle.bound_trees.specs.declared.statement.BoundBranch.{BoundBranch, roll-BoundBranch}
use Rattle.bound_trees.specs.declared.statement.BoundHandler.{BoundHandler, roll-BoundHandler}
use Rattle.bound_trees.specs.declared.statement.BoundStmt.{BoundStmt, roll-BoundStmt}
use Rattle.bound_trees.specs.declared.statement.BoundStmt.TheFolds.{map-BoundStmt, map-BoundBlock}
use Rattle.bound_trees.specs.declared.statement.BoundStmt.TheFolds.{map-BoundBranch}
use Rattle.bound_trees.specs.declared.statement.BoundStmt.TheFolds.{map-BoundHandler}
use Rattle.bound_trees.specs.declared.statement.BoundStmt.TheFolds.{fold-roll-BoundStmt}
use Rattle.bound_trees.specs.declared.statement.BoundStmt.TheFolds.{fold-roll-BoundBlock}
use Rattle.bound_trees.specs.declared.statement.BoundStmt.TheFolds.{fold-roll-BoundBranch}
use Rattle.bound_trees.specs.declared.statement.BoundStmt.TheFolds.{fold-roll-BoundHandler}
use Rattle.bound_trees.specs.declared.statement.BoundStmt.TheOpen.{BoundStmt-F, BoundBlock-F}
use Rattle.bound_trees.specs.declared.statement.BoundStmt.TheOpen.{BoundBranch-F, BoundHandler-F}
use Rattle.catalog_store.specs.Uses.{Uses, uses_in, uses_in_item, uses_in_query, uses_in_row}
use Rattle.catalog_store.specs.Uses.{uses_in_source, uses_in_link, uses_in_grouping, uses_in_select}
use Rattle.typing_lasting.specs.Used.{UsedNames, stmt_names, block_names, branch_names}
use Rattle.typing_lasting.specs.Used.{handler_names, statement_names, names_of_block}
use Rattle.typing_lasting.specs.Used.{names_of_branch, names_of_handler}
pub use Rattle.typing_trees.proofs.Laws.{ExprLayer, ItemLayer, QueryLayer, RowLayer, SourceLayer}
pub use Rattle.typing_trees.proofs.Laws.{LinkLayer, GroupingLayer, SelectLayer}
pub use Rattle.typing_trees.proofs.Laws.{expr_kinded, item_kinded, query_kinded, row_kinded}
pub use Rattle.typing_trees.proofs.Laws.{source_kinded, link_kinded, grouping_kinded, select_kinded}
pub use Rattle.typing_trees.proofs.Laws.{kind_of-at, kinds_of_item-at, kinds_of_query-at}
pub use Rattle.typing_trees.proofs.Laws.{exprs_of_row-at, kinds_of_source-at, kind_of_link-at}
pub use Rattle.typing_trees.proofs.Laws.{kinds_of_grouping-at, kinds_of_select-at}
pub use Rattle.typing_trees.proofs.Laws.{StmtLayer, BlockLayer, BranchLayer, HandlerLayer}
pub use Rattle.typing_trees.proofs.Laws.{stmt_seen, is_typed-at, block_seen, block_is_typed-at}
pub use Rattle.typing_trees.proofs.Laws.{branch_seen, branch_of-at, handler_seen, handler_of-at}

-- ---- expressions and queries

-- ---- the uses of what stands in a layer

abbrev pub expr_uses_seen : ExprLayer → BoundExpr-F Uses Uses Uses Uses Uses Uses Uses Uses
expr_uses_seen x = map-BoundExpr BoundExpr BoundFromItem BoundQuery BoundRow BoundSource BoundLink
    BoundGrouping BoundSelect Uses Uses Uses Uses Uses Uses Uses Uses uses_in uses_in_item
    uses_in_query uses_in_row uses_in_source uses_in_link uses_in_grouping uses_in_select x

abbrev pub item_uses_seen : ItemLayer → BoundFromItem-F Uses Uses Uses Uses Uses Uses Uses Uses
item_uses_seen x =
    map-BoundFromItem BoundExpr BoundFromItem BoundQuery BoundRow BoundSource BoundLink
    BoundGrouping BoundSelect Uses Uses Uses Uses Uses Uses Uses Uses uses_in uses_in_item
    uses_in_query uses_in_row uses_in_source uses_in_link uses_in_grouping uses_in_select x

abbrev pub query_uses_seen : QueryLayer → BoundQuery-F Uses Uses Uses Uses Uses Uses Uses Uses
query_uses_seen x = map-BoundQuery BoundExpr BoundFromItem BoundQuery BoundRow BoundSource BoundLink
    BoundGrouping BoundSelect Uses Uses Uses Uses Uses Uses Uses Uses uses_in uses_in_item
    uses_in_query uses_in_row uses_in_source uses_in_link uses_in_grouping uses_in_select x

abbrev pub row_uses_seen : RowLayer → BoundRow-F Uses Uses Uses Uses Uses Uses Uses Uses
row_uses_seen x = map-BoundRow BoundExpr BoundFromItem BoundQuery BoundRow BoundSource BoundLink
    BoundGrouping BoundSelect Uses Uses Uses Uses Uses Uses Uses Uses uses_in uses_in_item
    uses_in_query uses_in_row uses_in_source uses_in_link uses_in_grouping uses_in_select x

abbrev pub source_uses_seen : SourceLayer → BoundSource-F Uses Uses Uses Uses Uses Uses Uses Uses
source_uses_seen x =
    map-BoundSource BoundExpr BoundFromItem BoundQuery BoundRow BoundSource BoundLink
    BoundGrouping BoundSelect Uses Uses Uses Uses Uses Uses Uses Uses uses_in uses_in_item
    uses_in_query uses_in_row uses_in_source uses_in_link uses_in_grouping uses_in_select x

abbrev pub link_uses_seen : LinkLayer → BoundLink-F Uses Uses Uses Uses Uses Uses Uses Uses
link_uses_seen x = map-BoundLink BoundExpr BoundFromItem BoundQuery BoundRow BoundSource BoundLink
    BoundGrouping BoundSelect Uses Uses Uses Uses Uses Uses Uses Uses uses_in uses_in_item
    uses_in_query uses_in_row uses_in_source uses_in_link uses_in_grouping uses_in_select x

abbrev pub grouping_uses_seen : GroupingLayer →
    BoundGrouping-F Uses Uses Uses Uses Uses Uses Uses Uses
grouping_uses_seen x =
    map-BoundGrouping BoundExpr BoundFromItem BoundQuery BoundRow BoundSource BoundLink
    BoundGrouping BoundSelect Uses Uses Uses Uses Uses Uses Uses Uses uses_in uses_in_item
    uses_in_query uses_in_row uses_in_source uses_in_link uses_in_grouping uses_in_select x

abbrev pub select_uses_seen : SelectLayer → BoundSelect-F Uses Uses Uses Uses Uses Uses Uses Uses
select_uses_seen x =
    map-BoundSelect BoundExpr BoundFromItem BoundQuery BoundRow BoundSource BoundLink
    BoundGrouping BoundSelect Uses Uses Uses Uses Uses Uses Uses Uses uses_in uses_in_item
    uses_in_query uses_in_row uses_in_source uses_in_link uses_in_grouping uses_in_select x

-- ---- statements

abbrev pub stmt_used : StmtLayer → BoundStmt-F UsedNames UsedNames UsedNames UsedNames
stmt_used x = map-BoundStmt BoundStmt BoundBlock BoundBranch BoundHandler UsedNames UsedNames
    UsedNames UsedNames statement_names names_of_block names_of_branch names_of_handler x

pub statement_names-at : (x : StmtLayer) → statement_names (roll-BoundStmt x) ≡ stmt_names
    (stmt_used x)
statement_names-at x = fold-roll-BoundStmt UsedNames UsedNames UsedNames UsedNames stmt_names
    block_names branch_names handler_names x

abbrev pub block_used : BlockLayer → BoundBlock-F UsedNames UsedNames UsedNames UsedNames
block_used x = map-BoundBlock BoundStmt BoundBlock BoundBranch BoundHandler UsedNames UsedNames
    UsedNames UsedNames statement_names names_of_block names_of_branch names_of_handler x

pub names_of_block-at : (x : BlockLayer) → names_of_block (roll-BoundBlock x) ≡ block_names
    (block_used x)
names_of_block-at x = fold-roll-BoundBlock UsedNames UsedNames UsedNames UsedNames stmt_names
    block_names branch_names handler_names x

abbrev pub branch_used : BranchLayer → BoundBranch-F UsedNames UsedNames UsedNames UsedNames
branch_used x = map-BoundBranch BoundStmt BoundBlock BoundBranch BoundHandler UsedNames UsedNames
    UsedNames UsedNames statement_names names_of_block names_of_branch names_of_handler x

pub names_of_branch-at : (x : BranchLayer) → names_of_branch (roll-BoundBranch x) ≡ branch_names
    (branch_used x)
names_of_branch-at x = fold-roll-BoundBranch UsedNames UsedNames UsedNames UsedNames stmt_names
    block_names branch_names handler_names x

abbrev pub handler_used : HandlerLayer → BoundHandler-F UsedNames UsedNames UsedNames UsedNames
handler_used x = map-BoundHandler BoundStmt BoundBlock BoundBranch BoundHandler UsedNames UsedNames
    UsedNames UsedNames statement_names names_of_block names_of_branch names_of_handler x

pub names_of_handler-at : (x : HandlerLayer) →
    names_of_handler (roll-BoundHandler x) ≡ handler_names
    (handler_used x)
names_of_handler-at x = fold-roll-BoundHandler UsedNames UsedNames UsedNames UsedNames stmt_names
    block_names branch_names handler_names x

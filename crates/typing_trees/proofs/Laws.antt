-- The laws that other crates' proofs use.
pub use Rattle.typing_trees.proofs.Layers.{ExprLayer, ItemLayer, QueryLayer, RowLayer, SourceLayer}
pub use Rattle.typing_trees.proofs.Layers.{LinkLayer, GroupingLayer, SelectLayer}
pub use Rattle.typing_trees.proofs.Layers.{expr_kinded, item_kinded, query_kinded, row_kinded}
pub use Rattle.typing_trees.proofs.Layers.{source_kinded, link_kinded, grouping_kinded}
pub use Rattle.typing_trees.proofs.Layers.{select_kinded}
pub use Rattle.typing_trees.proofs.Layers.{kind_of-at, kinds_of_item-at, kinds_of_query-at}
pub use Rattle.typing_trees.proofs.Layers.{exprs_of_row-at, kinds_of_source-at, kind_of_link-at}
pub use Rattle.typing_trees.proofs.Layers.{kinds_of_grouping-at, kinds_of_select-at}
pub use Rattle.typing_trees.proofs.StatementLayers.{StmtLayer, BlockLayer, BranchLayer}
pub use Rattle.typing_trees.proofs.StatementLayers.{HandlerLayer, stmt_seen, is_typed-at}
pub use Rattle.typing_trees.proofs.StatementLayers.{block_seen, block_is_typed-at, branch_seen}
pub use Rattle.typing_trees.proofs.StatementLayers.{branch_of-at, handler_seen, handler_of-at}

-- The laws that upper crates cite.
use Rattle.std.proofs.Common.{sym}
use Rattle.catalog_store.specs.Laws.{AddingLeavesOthers, DroppingLeavesOthers}
pub use Rattle.catalog_store.proofs.Named.{named_kept, named_after}
pub use Rattle.catalog_store.proofs.Trees.{Same, same_tree, same_query, same_back, fit_in_both}
pub use Rattle.catalog_store.proofs.Sound.{named_in_all, fits_in_all}
pub use Rattle.catalog_store.proofs.LastingTrees.{UseLasts, UsesLast, lasting_tree, lasting_query}
pub use Rattle.catalog_store.proofs.Lasting.{AgreeIn, AllLasting, fitting_last, lasting_more}
pub use Rattle.catalog_store.proofs.Bound.{uses_in-Literal, uses_in-Column, uses_in-Variable}
pub use Rattle.catalog_store.proofs.Bound.{uses_in-Operation, uses_in-Chain, uses_in-Call}
pub use Rattle.catalog_store.proofs.Bound.{uses_in-Single, uses_in-Exists, uses_in-In}
pub use Rattle.catalog_store.proofs.Bound.{uses_in_item-Comma, uses_in_item-Cross}
pub use Rattle.catalog_store.proofs.Bound.{uses_in_item-Inner, uses_in_item-Left}
pub use Rattle.catalog_store.proofs.Bound.{uses_in_query-Select, uses_in_query-Values}
pub use Rattle.catalog_store.proofs.Bound.{uses_in_query-Ordered, uses_in_row-Row}
pub use Rattle.catalog_store.proofs.Bound.{uses_in_source-Table, uses_in_source-Derived}
pub use Rattle.catalog_store.proofs.Bound.{uses_in_link-parts, uses_in_grouping-parts}
pub use Rattle.catalog_store.proofs.Bound.{uses_in_select-made, uses_in_select-parts}
pub use Rattle.catalog_store.proofs.Bound.{tree_of-Literal, tree_of-Column, tree_of-Variable}
pub use Rattle.catalog_store.proofs.Bound.{tree_of-Operation, tree_of-Chain, tree_of-Call}
pub use Rattle.catalog_store.proofs.Bound.{tree_of-Single, tree_of-Exists, tree_of-In}
pub use Rattle.catalog_store.proofs.Bound.{query_of-Select, query_of-Values, query_of-Ordered}
pub use Rattle.catalog_store.proofs.Bound.{row_of-Row, source_of-Table, source_of-Derived}
pub use Rattle.catalog_store.proofs.Bound.{item_of-Comma, item_of-Cross, item_of-Inner}
pub use Rattle.catalog_store.proofs.Bound.{item_of-Left}
pub use Rattle.catalog_store.proofs.Bound.{link_of-parts, grouping_of-parts, select_of-made}
pub use Rattle.catalog_store.proofs.Bound.{select_of-parts}
pub use Rattle.catalog_store.proofs.Kept.{run_of-Extend, run_of-Apply}
pub use Rattle.catalog_store.proofs.Layers.{expr_uses-at, item_uses-at, query_uses-at, row_uses-at}
pub use Rattle.catalog_store.proofs.Layers.{source_uses-at, link_uses-at, grouping_uses-at}
pub use Rattle.catalog_store.proofs.Layers.{select_uses-at}
pub use Rattle.catalog_store.proofs.Layers.{tree_of-at, item_of-at, query_of-at, row_of-at}
pub use Rattle.catalog_store.proofs.Layers.{source_of-at, link_of-at, grouping_of-at, select_of-at}
pub use Rattle.catalog_store.proofs.Layers.{ExprLayer, ItemLayer, QueryLayer, RowLayer, SourceLayer}
pub use Rattle.catalog_store.proofs.Layers.{LinkLayer, GroupingLayer, SelectLayer, expr_used}
pub use Rattle.catalog_store.proofs.Layers.{item_used, query_used, row_used, source_used, link_used}
pub use Rattle.catalog_store.proofs.Layers.{grouping_used, select_used}
pub use Rattle.catalog_store.proofs.Named.{same_bytes, bytes_self, bytes_swap, other_bytes}
pub use Rattle.catalog_store.proofs.Named.{without_front, without_last, without_none}
use Rattle.catalog_store.proofs.Named.{named_more, named_less}

pub adding_leaves_others : AddingLeavesOthers
adding_leaves_others name known entry f = named_more name known entry
    (other_bytes entry.name name (λ q. f (sym q)))

pub dropping_leaves_others : DroppingLeavesOthers
dropping_leaves_others name other known f = named_less name other known f

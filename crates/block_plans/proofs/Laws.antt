-- The laws that upper crates cite.
pub use Rattle.block_plans.proofs.Bare.{bare_views, bare_plan}
pub use Rattle.block_plans.proofs.Parts.{expr_seen-Literal, expr_seen-Column, expr_seen-Variable}
pub use Rattle.block_plans.proofs.Parts.{expr_seen-Operation, expr_seen-Chain, expr_seen-Call}
pub use Rattle.block_plans.proofs.Parts.{expr_seen-Single, expr_seen-Exists, expr_seen-In}
pub use Rattle.block_plans.proofs.Parts.{query_seen-Select, query_seen-Values, query_seen-Ordered}
pub use Rattle.block_plans.proofs.Parts.{row_seen-Row, source_seen-Table, source_seen-Derived}
pub use Rattle.block_plans.proofs.Parts.{item_seen-Comma, item_seen-Cross, item_seen-Inner}
pub use Rattle.block_plans.proofs.Parts.{item_seen-Left, link_seen-parts, grouping_seen-parts}
pub use Rattle.block_plans.proofs.Parts.{select_seen-grouped, select_seen-ungrouped}
pub use Rattle.block_plans.proofs.Shapes.{raising_seen, key_seen, rows_width_seen}
pub use Rattle.block_plans.proofs.Shapes.{query_width_seen}

-- The laws that upper crates cite.
pub use Rattle.plan_drafts.proofs.Choosing.{columns_more, rows_narrow, columns_first, columns_last}
pub use Rattle.plan_drafts.proofs.Aggregates.{numbered-long}
pub use Rattle.plan_drafts.proofs.Waits.{filters-after, width-after, waiting-wide}
pub use Rattle.plan_drafts.proofs.Own.{listed-after}
pub use Rattle.plan_drafts.proofs.Widths.{select_of-grouped, select_of-ungrouped}

-- The laws that upper crates cite.
pub use Rattle.viewing_laws.proofs.Deciding.{callees_decide, routines_decide, others_decide}
pub use Rattle.viewing_laws.proofs.Deciding.{narrowed, each_so, views_decided}
pub use Rattle.viewing_laws.proofs.Layers.{StmtLayer, BlockLayer, BranchLayer, HandlerLayer}
pub use Rattle.viewing_laws.proofs.Layers.{stmt_called, block_called, branch_called, handler_called}
pub use Rattle.viewing_laws.proofs.Layers.{statement_calls-at, calls_of_block-at, calls_of_branch-at}
pub use Rattle.viewing_laws.proofs.Layers.{calls_of_handler-at}
pub use Rattle.viewing_laws.proofs.Standing.{routines_by_name, adding_leaves_views}
pub use Rattle.viewing_laws.proofs.Standing.{dropping_leaves_views}
pub use Rattle.viewing_laws.proofs.Heads.{heads_suffice}
pub use Rattle.viewing_laws.proofs.Planned.{planned_views}

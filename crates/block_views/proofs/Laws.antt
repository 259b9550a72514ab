-- The laws that upper crates cite.
pub use Rattle.block_views.proofs.Running.{seen_as_run}

-- The laws on which upper crates stand.
pub use Rattle.null_guards.proofs.Means.{null_calls_mean}
pub use Rattle.null_guards.proofs.Seen.{guards_are_seen, guards_are_planned, guards_use_nothing}
pub use Rattle.null_guards.proofs.Typed.{guards_keep_kinds}

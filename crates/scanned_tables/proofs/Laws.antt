-- The law that upper crates cite.
pub use Rattle.scanned_tables.proofs.Deciding.{scans_decide}

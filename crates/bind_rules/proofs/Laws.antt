-- The laws on which upper crates stand.
pub use Rattle.bind_rules.proofs.Unrolled.{unrolled}

-- The laws on which upper crates stand.
pub use Rattle.grammar_order_law.proofs.Spelled.{spelled_in_order}

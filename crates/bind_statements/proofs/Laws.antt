-- The laws on which upper crates stand.
pub use Rattle.bind_statements.proofs.Typed.{faultless-typed}

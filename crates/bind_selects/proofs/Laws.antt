-- The laws on which upper crates stand.
pub use Rattle.bind_selects.proofs.Typed.{whole-typed}

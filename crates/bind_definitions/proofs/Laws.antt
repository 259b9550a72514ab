-- The laws on which upper crates stand.
pub use Rattle.bind_definitions.proofs.Elements.{key-columns}
pub use Rattle.bind_definitions.proofs.Guards.{guarded_uses, guarded_planned}

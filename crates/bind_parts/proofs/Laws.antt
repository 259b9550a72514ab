-- The laws on which upper crates stand.
pub use Rattle.bind_parts.proofs.Steps.{unrolled, next}
pub use Rattle.bind_parts.proofs.Turns.{each-value, each-notes, each-map, then-notes}

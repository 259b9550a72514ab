-- What holds of nodes on one row, for the crates above.
pub use Rattle.region_steps.proofs.Fronts.{chain_append}

-- What holds of comparisons of columns with values, for the crates above.
pub use Rattle.plan_keys.proofs.Compared.{compared_turned}

pub mod Sums
pub mod Weights

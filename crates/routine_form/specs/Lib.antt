pub mod Sums
pub mod Calls
pub mod Weight
pub mod Examples

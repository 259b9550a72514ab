pub mod Faults
pub mod Least

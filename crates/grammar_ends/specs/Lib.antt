pub mod Begins
pub mod Examples

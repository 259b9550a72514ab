pub mod Rows
pub mod Kept
pub mod Holding
pub mod Calls

pub mod Stored
pub mod Assigning
pub mod Counted

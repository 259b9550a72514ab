pub mod Plainness
pub mod Selecting
pub mod Pairs
pub mod Examples
pub mod Folding
pub mod Cost

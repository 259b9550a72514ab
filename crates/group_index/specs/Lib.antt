pub mod Kept
pub mod Folded
pub mod Examples
pub mod Indexed

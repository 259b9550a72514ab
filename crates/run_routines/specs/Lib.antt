pub mod Otherwise
pub mod Selecting
pub mod Writing
pub mod Scripts

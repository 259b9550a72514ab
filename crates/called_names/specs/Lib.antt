pub mod Called
pub mod Reached

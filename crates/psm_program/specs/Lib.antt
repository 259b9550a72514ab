pub mod Script
pub mod Session
pub mod Outcome
pub mod Whole
pub mod Examples

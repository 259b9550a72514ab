pub mod Views
pub mod Routines
pub mod Examples

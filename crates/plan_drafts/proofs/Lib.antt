pub mod Places
pub mod Own
pub mod Choosing
pub mod Widths
pub mod Joining
pub mod Waits
pub mod Aggregates
pub mod Laws

pub mod Joins
pub mod Groups
pub mod GroupRows
pub mod Listed
pub mod Examples

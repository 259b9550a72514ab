pub mod Kinds
pub mod Around
pub mod Queries
pub mod Statements
pub mod Examples

pub mod Statements
pub mod Codes

pub mod Alone
pub mod Statements
pub mod Examples

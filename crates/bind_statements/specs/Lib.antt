pub mod Functions
pub mod Statements
pub mod Binds
pub mod Types
pub mod Runs
pub mod Examples

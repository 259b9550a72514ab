pub mod Outcomes
pub mod Scopes
pub mod Examples

pub mod Modes
pub mod Examples

pub mod Places
pub mod Kept
pub mod Memory
pub mod Blocks
pub mod Examples

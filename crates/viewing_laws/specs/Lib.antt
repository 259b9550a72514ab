pub mod Calls
pub mod Deciding
pub mod Standing
pub mod Planned
pub mod Examples

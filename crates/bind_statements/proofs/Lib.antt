pub mod Meeting
pub mod Made
pub mod Runs
pub mod Rows
pub mod Light
pub mod Typed
pub mod Laws

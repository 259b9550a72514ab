pub mod Places
pub mod Values
pub mod States
pub mod Storing
pub mod Calls
pub mod Anchors
pub mod Simple
pub mod Examples

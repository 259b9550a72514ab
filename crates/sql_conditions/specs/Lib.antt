pub mod Conditions
pub mod Examples
pub mod Messages
pub mod States
pub mod Texts

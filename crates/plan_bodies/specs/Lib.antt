pub mod Choices
pub mod Blocks
pub mod Cost
pub mod Examples

pub mod Layers
pub mod Counting
pub mod Planned

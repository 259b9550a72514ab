pub mod Reading
pub mod Alike
pub mod Steps
pub mod Blocks
pub mod Deciding
pub mod Nodes
pub mod Laws

pub mod Layers
pub mod Agreeing
pub mod Running
pub mod Laws

pub mod Layers
pub mod Parts
pub mod Bare
pub mod Shapes
pub mod Holding
pub mod Laws

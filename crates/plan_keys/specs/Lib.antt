pub mod Bounds
pub mod LeftOut
pub mod Reading
pub mod Terms

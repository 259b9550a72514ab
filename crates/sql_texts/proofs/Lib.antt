pub mod ByteOrder
pub mod Folding
pub mod Parts

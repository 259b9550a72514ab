pub mod Forms
pub mod Layers
pub mod Made
pub mod Rows

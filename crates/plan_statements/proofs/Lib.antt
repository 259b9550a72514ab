pub mod Cells
pub mod Declaring
pub mod Single
pub mod Several

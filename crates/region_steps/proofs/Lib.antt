pub mod Codes
pub mod Cells
pub mod Words
pub mod Fronts
pub mod Laws

pub mod Among
pub mod Sights

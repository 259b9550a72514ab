pub mod ScalarLists
pub mod Fronts
pub mod Operators
pub mod Margins
pub mod NodeLines
pub mod Steps
pub mod Ways

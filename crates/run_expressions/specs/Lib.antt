pub mod Content
pub mod Ending
pub mod Following
pub mod Cost
pub mod Units
pub mod Words

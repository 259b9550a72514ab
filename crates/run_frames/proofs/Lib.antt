pub mod Puts
pub mod Fetching

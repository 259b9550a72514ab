pub mod Places
pub mod OfGroups
pub mod Entries
pub mod Indexed

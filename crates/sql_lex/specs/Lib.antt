pub mod Openings
pub mod Places
pub mod Scan
pub mod Signs
pub mod Tokens
pub mod Words
pub mod Examples

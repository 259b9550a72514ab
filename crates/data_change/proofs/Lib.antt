pub mod Places
pub mod Meeting
pub mod Changing
pub mod Laws

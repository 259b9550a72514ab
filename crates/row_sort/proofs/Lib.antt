pub mod Stable
pub mod Keys
pub mod Mapped
pub mod Passes
pub mod Places
pub mod Values
pub mod ByNumbers

pub mod Below
pub mod Sees

pub mod Steps
pub mod Keeping
pub mod Begun
pub mod Holding
pub mod Constructs
pub mod Laws

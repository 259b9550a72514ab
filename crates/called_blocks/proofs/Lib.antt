pub mod Owning
pub mod Having

pub mod Direct
pub mod Returning

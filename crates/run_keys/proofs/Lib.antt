pub mod Saying
pub mod Meeting
pub mod Laws

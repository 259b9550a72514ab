pub mod Joined
pub mod Answered

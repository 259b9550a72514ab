pub mod Statuses
pub mod Reading
pub mod Writing
pub mod Replies
pub mod Endings

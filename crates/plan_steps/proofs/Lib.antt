pub mod Sure
pub mod Stepping
pub mod Stores
pub mod Acting
pub mod Listed
pub mod Seen
pub mod Dispatching
pub mod Trees

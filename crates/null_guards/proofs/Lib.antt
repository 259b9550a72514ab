pub mod Means
pub mod Seen
pub mod Typed
pub mod Laws

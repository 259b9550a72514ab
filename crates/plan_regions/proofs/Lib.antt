pub mod Chained
pub mod Ended
pub mod Stepped

pub mod Ending
pub mod Widths
pub mod Calling
pub mod Sights

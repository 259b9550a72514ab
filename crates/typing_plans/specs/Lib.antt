pub mod Shaping
pub mod Bodies
pub mod Examples
pub mod Kinding

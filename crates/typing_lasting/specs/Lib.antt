pub mod Used
pub mod Lasting
pub mod Examples

pub mod Index
pub mod Counting
pub mod ItemNaming

pub mod Runs
pub mod Scanned
pub mod Called

pub mod Reading
pub mod Rows
pub mod Walking
pub mod Ends
pub mod Laws

pub mod Index
pub mod Columns
pub mod Scopes
pub mod Sight
pub mod ItemNames
pub mod Examples

pub mod Book
pub mod Undo
pub mod Changes
pub mod Applying
pub mod Sorting
pub mod Between
pub mod Examples

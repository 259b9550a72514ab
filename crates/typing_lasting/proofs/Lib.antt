pub mod Layers
pub mod Expressions
pub mod Statements
pub mod Names
pub mod Rows
pub mod Laws

pub mod Loops
pub mod Declarations
pub mod Examples

pub mod Expressions
pub mod Statements
pub mod Bodies
pub mod Worked
pub mod Laws

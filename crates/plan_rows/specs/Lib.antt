pub mod Connectives
pub mod Firsts
pub mod Outer
pub mod Subqueries
pub mod Tests
pub mod Evaluated

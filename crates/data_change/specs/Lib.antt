pub mod Writing
pub mod Met
pub mod Laws
pub mod Examples

pub mod Parameters
pub mod Returned
pub mod Costs
pub mod Blocks
pub mod Emitting
pub mod Choosing
pub mod Others

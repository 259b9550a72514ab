pub mod Callees
pub mod View
pub mod Blocks
pub mod Laws

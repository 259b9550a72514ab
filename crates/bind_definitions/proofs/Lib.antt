pub mod Access
pub mod Elements
pub mod Guards
pub mod Laws

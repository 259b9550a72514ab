pub mod Apart
pub mod Laws
pub mod Order
pub mod Sooner

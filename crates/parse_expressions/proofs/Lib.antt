pub mod FirstItem
pub mod Lone
pub mod Laws

pub mod After
pub mod Keeping
pub mod Near
pub mod Setting
pub mod Removing

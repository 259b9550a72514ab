pub mod Form
pub mod Regions
pub mod Laws
pub mod Examples

pub mod Filled
pub mod Forms

mod Gathering
pub mod After

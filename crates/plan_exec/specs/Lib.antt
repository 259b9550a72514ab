pub mod Answers
pub mod Apart
pub mod Applying
pub mod Chains
pub mod Passing
pub mod RegionRows

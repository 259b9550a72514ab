pub mod Chains
pub mod Idle
pub mod Truths

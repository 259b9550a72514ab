pub mod Types
pub mod Kinds
pub mod Chains
pub mod Operations
pub mod Aggregates
pub mod Words
pub mod Conjuncts
pub mod Examples

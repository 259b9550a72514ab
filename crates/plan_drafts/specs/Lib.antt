pub mod Conjuncts
pub mod Joining
pub mod Listing
pub mod Choosing
pub mod Grouping
pub mod Folding

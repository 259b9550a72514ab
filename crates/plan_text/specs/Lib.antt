pub mod ScalarText
pub mod PlanLines
pub mod NodeCounts
pub mod Explained
pub mod Parts
pub mod Examples

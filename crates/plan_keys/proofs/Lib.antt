pub mod Bounding
pub mod Compared
pub mod KeyOrder
pub mod Missed
pub mod SameRows
pub mod Laws

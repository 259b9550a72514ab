pub mod KindsTrees
pub mod Best
pub mod Trees
pub mod Planned
pub mod TreeLaws
pub mod Worlds

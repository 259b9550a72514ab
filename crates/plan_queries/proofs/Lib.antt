pub mod Ends
pub mod Queries
pub mod Joining
pub mod Tests
pub mod Emitting
pub mod Calling
pub mod Asked
pub mod Costs

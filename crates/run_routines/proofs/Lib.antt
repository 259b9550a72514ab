pub mod Otherwise
pub mod Signalling
pub mod Arms
pub mod Storing
pub mod Ends
pub mod Selected

pub mod Ends
pub mod Items
pub mod OnConditions
pub mod Words

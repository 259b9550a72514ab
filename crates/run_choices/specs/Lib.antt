pub mod Faults
pub mod Ending
pub mod Sight
pub mod Words
pub mod Units
pub mod Forms

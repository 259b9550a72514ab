pub mod Casts
pub mod Examples
pub mod Folds
pub mod Operators
pub mod Spellings
pub mod Texts
pub mod Values

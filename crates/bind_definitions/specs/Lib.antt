pub mod Tables
pub mod Characteristics
pub mod Routines
pub mod Removals
pub mod Making

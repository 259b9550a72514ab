pub mod Into
pub mod Operands

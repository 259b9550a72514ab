pub mod Decimals
pub mod Folding
pub mod Numerals
pub mod Places
pub mod Spelling
pub mod Trimming

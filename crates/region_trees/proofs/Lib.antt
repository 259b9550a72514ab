pub mod Layers
pub mod Worked
pub mod Embedding
pub mod Agreeing
pub mod Bodies
pub mod Meaning

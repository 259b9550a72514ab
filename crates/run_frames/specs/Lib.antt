pub mod Cursors
pub mod Frames
pub mod Examples

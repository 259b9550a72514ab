pub mod Short
pub mod HandlerRows
pub mod PlaceRows
pub mod AtomicRows
pub mod LoopRows
pub mod CursorRows

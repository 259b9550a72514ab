pub mod LeftOut
pub mod Made

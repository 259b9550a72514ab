pub mod Unrolled
pub mod Repeated
pub mod Laws

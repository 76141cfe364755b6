pub mod End
pub mod Bits

pub mod End
pub mod Bits
mod SameWords

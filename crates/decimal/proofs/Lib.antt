pub mod Digits
mod Carry
pub mod Value

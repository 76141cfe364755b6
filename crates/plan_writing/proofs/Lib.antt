pub mod Puts
pub mod Underway
pub mod Multiples
pub mod Digits

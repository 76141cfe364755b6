pub mod Triple
pub mod Digits

mod Passing
pub mod Words

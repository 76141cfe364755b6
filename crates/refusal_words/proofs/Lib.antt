pub mod Promises
pub mod Texts

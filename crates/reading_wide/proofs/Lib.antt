pub mod Size
pub mod Promises

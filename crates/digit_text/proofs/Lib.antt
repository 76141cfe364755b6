mod Comparing
mod Filling
pub mod Promises

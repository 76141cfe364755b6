pub mod Value
pub mod Promises
pub mod Demand3

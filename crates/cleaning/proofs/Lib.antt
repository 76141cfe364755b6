pub mod Outcomes
pub mod Promises
pub mod Demand3

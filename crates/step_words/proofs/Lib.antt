mod Positions
mod Names
mod Outcomes
pub mod Promises

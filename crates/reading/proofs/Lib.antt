pub mod Outcomes
pub mod OfWidth
pub mod Promises

pub mod Recording
pub mod Records
mod Limits
mod Sizes

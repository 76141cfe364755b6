pub mod Judge
pub mod Promises
mod Tally
mod Underway
mod Turn

mod Written
pub mod Promises

pub mod Fitted
pub mod Memory
pub mod Returns
pub mod Untested

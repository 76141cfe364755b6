-- What every call shares.
pub mod Limits
pub mod Refusals
pub mod Outcome
pub mod Memory

pub mod Records
pub mod Values
pub mod Bytes
pub mod Counts
pub mod Largest

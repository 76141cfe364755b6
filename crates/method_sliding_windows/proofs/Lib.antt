pub mod Bits
pub mod Windows
pub mod Scan

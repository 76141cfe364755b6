pub mod Load
pub mod Digit
pub mod Scan
pub mod Padded
pub mod Form

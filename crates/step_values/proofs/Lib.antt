mod Signed
pub mod Tested
pub mod Outcomes

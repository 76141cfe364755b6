pub mod Examples
pub mod Modified
pub mod OwnPlans
pub mod Spelling
pub mod Text

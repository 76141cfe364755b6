pub mod Moves
pub mod Promises
pub mod Takes

pub mod Copied
mod Taken
pub mod Takes

pub mod Places
pub mod Length

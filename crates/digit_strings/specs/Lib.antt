pub mod Admission
pub mod Places
pub mod Raised
pub mod Internal

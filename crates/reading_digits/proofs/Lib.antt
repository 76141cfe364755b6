pub mod Raised
pub mod Sign
pub mod Size
pub mod Backward

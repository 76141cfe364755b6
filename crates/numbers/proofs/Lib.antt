pub mod Tests
pub mod Given
pub mod Spelling

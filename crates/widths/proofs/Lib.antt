pub mod Tests
pub mod Given

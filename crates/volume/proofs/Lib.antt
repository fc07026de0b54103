pub mod Words
pub mod Tests
pub mod Growing
pub mod Chunks

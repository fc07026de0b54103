pub mod Whole
pub mod Answer

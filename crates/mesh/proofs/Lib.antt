mod Ranges
pub mod Numbers
mod Puts
pub mod Back

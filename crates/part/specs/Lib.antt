pub mod Taking
pub mod Links
pub mod Forest
pub mod Passes

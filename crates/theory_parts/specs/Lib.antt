pub mod Parts
pub mod Regions
pub mod Buffer

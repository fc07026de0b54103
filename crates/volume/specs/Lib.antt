pub mod Buffer
pub mod Measure
pub mod Bounded
pub mod Text

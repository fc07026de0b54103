pub mod Fraction
pub mod Buffer

pub mod Faults
pub mod Goodness

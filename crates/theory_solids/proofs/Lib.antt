pub mod Adding
pub mod Solids

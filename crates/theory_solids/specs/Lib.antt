pub mod Solids
pub mod Adding

pub mod Refusals
pub mod Scan

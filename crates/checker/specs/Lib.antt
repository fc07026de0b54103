pub mod Chained
pub mod Verdict
pub mod Passes

pub mod Verdicts
mod Reading
mod Following
mod Linking
mod Counting
mod Cycles
mod Rounds
mod Around
pub mod Compared
mod Tallying
mod Walking
mod Chunks
mod Deciding

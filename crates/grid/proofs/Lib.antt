pub mod Ends
pub mod Undone

mod Connection
mod Trees
pub mod Places
pub mod Laws
mod Spokes
mod Turns
mod Written
mod Chunks

mod Chunks
mod Short
mod Wholes

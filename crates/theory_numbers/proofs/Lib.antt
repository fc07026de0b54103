pub mod Firsts
pub mod Kept
pub mod Numbered
pub mod Meeting
pub mod Cubes
pub mod Crossed
pub mod Order
pub mod Six

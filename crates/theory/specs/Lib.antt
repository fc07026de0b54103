pub mod Grid
pub mod Triangle
pub mod Skin
pub mod Closed
pub mod Faces
pub mod Worked
pub mod Spelled
pub mod Places

pub mod Volume
pub mod Inside
pub mod Sizes

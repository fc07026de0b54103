pub mod Renamed
pub mod ByNumber

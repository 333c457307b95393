pub mod Bytes
pub mod Back
pub mod Lays

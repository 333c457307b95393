pub mod Returned
pub mod Slices

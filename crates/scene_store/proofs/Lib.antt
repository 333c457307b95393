pub mod Stores
pub mod Counts

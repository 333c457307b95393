pub mod Unique
pub mod Exact

pub mod Readings
pub mod Judging
pub mod Exact
pub mod Stores
pub mod Owns
pub mod Endings
pub mod Split

pub mod Writes
pub mod Once

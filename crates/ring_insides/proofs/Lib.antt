pub mod Seekings
pub mod Means

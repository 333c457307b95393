pub mod Arctan
pub mod Angles

pub mod Corners
pub mod Rounds

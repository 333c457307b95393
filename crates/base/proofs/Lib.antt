pub mod Corners
pub mod Settling
pub mod Surely

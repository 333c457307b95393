pub mod Distances
pub mod Blocks
pub mod Least
pub mod Why

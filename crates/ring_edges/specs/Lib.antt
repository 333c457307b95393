pub mod Edges
pub mod Blocks

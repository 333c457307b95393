pub mod Shapes
pub mod Sounds
pub mod Rings
pub mod Vectors
pub mod Exact
pub mod Most

pub mod Inverse
pub mod Unit
pub mod Vectors
pub mod Normal

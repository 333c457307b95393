pub mod Normals
pub mod Caps
pub mod Insides
pub mod Whole
pub mod Theorem

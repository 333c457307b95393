pub mod Turned
pub mod Finite
pub mod Loops
pub mod Theorem

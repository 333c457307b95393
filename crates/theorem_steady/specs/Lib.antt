pub mod Turns
pub mod Directed

pub mod Sides
pub mod Turns

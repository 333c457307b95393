pub mod Signs
pub mod Mirrors

pub mod Signs
pub mod Zeros

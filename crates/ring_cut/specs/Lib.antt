pub mod Cut
pub mod Accepted

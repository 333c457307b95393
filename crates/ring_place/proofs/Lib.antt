pub mod Above
pub mod Nest
pub mod Examples

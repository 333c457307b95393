pub mod Aparts
pub mod Cuts
pub mod Fars

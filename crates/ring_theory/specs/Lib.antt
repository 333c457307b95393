pub mod Ring
pub mod Cuts
pub mod Demand3

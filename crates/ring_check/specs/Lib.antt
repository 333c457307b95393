pub mod Accepted
pub mod Demand

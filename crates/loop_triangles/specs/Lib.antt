pub mod Triangles
pub mod Demand
pub mod Why

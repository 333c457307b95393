pub mod Arcsine
pub mod Edges

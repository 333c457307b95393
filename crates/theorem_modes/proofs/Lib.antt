pub mod Computing
pub mod Rings
pub mod Plains
pub mod Longs

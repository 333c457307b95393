pub mod Plains
pub mod Longs

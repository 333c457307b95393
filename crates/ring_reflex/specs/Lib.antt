pub mod Lowest
pub mod Apart

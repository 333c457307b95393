pub mod Clears
pub mod Rounding
pub mod Adding
pub mod Alikes
pub mod Swapped
pub mod Stores
pub mod Tests
pub mod Mirror

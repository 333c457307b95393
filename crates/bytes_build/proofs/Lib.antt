pub mod Rooms
pub mod Builds

pub mod Rooms
pub mod Writes
pub mod Outs
pub mod Unique
pub mod Exact
pub mod Builts
pub mod Modes

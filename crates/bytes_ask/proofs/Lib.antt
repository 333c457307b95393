pub mod Asks
pub mod Calls

pub mod Writes
pub mod Decimals
pub mod Hexadecimals

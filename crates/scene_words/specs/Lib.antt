pub mod Bytes
pub mod Words
pub mod Decimals
pub mod Hexadecimals

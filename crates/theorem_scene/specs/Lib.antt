pub mod Why
pub mod Endings
pub mod Split

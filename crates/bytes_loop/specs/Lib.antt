pub mod Outcome
pub mod Layout

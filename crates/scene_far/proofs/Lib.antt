pub mod Parts
pub mod Refusals
pub mod Chords

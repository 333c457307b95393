pub mod Runs
pub mod Unique
pub mod Floats
pub mod Cuts
pub mod Refusals
pub mod Numbers
pub mod Texts

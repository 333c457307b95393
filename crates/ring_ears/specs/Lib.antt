pub mod Ears
pub mod Changes
pub mod Branches

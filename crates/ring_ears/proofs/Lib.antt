pub mod Indexes
pub mod Branches

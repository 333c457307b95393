pub mod Judged
pub mod Silence
pub mod Unique
pub mod Exact

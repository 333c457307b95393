pub mod Vec
pub mod Points

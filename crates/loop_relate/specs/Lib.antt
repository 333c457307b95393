pub mod Relations
pub mod Selves
pub mod Silence
pub mod Why

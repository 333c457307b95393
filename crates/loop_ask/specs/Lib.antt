pub mod Answers
pub mod Places
pub mod Questions
pub mod Silence
pub mod Why

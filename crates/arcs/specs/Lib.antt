pub mod Answers
pub mod Why

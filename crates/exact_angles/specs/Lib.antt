pub mod Exact
pub mod Gregory
pub mod Steady
pub mod Answers

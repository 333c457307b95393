pub mod Refusals
pub mod Judge
pub mod Why

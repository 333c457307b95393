pub mod Steps
pub mod Goods
pub mod Taken
pub mod Outcomes

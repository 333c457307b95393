pub mod Grades
pub mod Firsts
pub mod Orders
pub mod Clearing

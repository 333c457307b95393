pub mod Firsts
pub mod Tables

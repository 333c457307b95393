pub mod Firsts
pub mod Clears
pub mod Missing
pub mod Opposites

pub mod Lefts
pub mod Lists
pub mod Steps
pub mod Goings
pub mod Relations
pub mod Wholes

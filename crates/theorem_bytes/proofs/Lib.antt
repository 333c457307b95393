pub mod Floats
pub mod Kept
pub mod Loops
pub mod Marks
pub mod Writes
pub mod Numbers
pub mod Theorem
pub mod Sliced

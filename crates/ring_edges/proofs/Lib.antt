pub mod Examples
pub mod Arrays

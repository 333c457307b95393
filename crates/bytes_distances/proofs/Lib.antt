pub mod Fars

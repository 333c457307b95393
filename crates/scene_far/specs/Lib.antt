pub mod Said
pub mod Far

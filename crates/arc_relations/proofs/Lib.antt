pub mod Missing
pub mod Settled

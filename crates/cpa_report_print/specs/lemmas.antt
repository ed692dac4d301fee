pub mod Onto
pub mod Ordered

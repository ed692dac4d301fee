pub mod Along
pub mod Keeping
pub mod Walked

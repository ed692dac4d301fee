pub mod Following
pub mod Ranges
pub mod Refutations

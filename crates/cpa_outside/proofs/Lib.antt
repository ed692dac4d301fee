pub mod Grown
pub mod Places
mod SharedCounts

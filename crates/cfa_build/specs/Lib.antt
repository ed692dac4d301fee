pub mod Edges
pub mod Places

-- Lemmas on the definitions, which the laws' proofs and crates above cite. No definition that a
-- contract cites stands here.
pub mod Inputs
pub mod Places
pub mod Wanted
pub mod Stores
pub mod Models

-- Lemmas on bounds of differences, which the laws' proofs and crates above cite. No definition that
-- a contract cites stands here.
pub mod Numbers
pub mod Places
pub mod Fillings
pub mod Kept
pub mod Ways
pub mod Changing
pub mod Widening

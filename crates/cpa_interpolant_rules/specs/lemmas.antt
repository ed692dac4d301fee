-- Lemmas on the definitions, which the law's proof and proofs of crates above cite. No definition
-- that a contract cites stands here.
pub mod Leading
pub mod Taking
pub mod Keeping
pub mod Paths

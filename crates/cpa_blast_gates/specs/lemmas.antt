-- Lemmas on the definitions, which the laws' proofs and crates above cite. No definition that a
-- contract cites stands here.
pub mod Literals
pub mod Truths
pub mod Sharing
pub mod Growth
pub mod Folding
pub mod Members
pub mod Tseitin

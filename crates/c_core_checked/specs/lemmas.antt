-- Lemmas on the definitions, which the laws' proofs and crates above cite. No definition that a
-- contract cites stands here.
pub mod Checked

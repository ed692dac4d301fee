-- Lemmas on the definitions, which the laws' proofs and crates above cite. No definition that a
-- contract cites stands here.
pub mod Rows
pub mod Sharing
pub mod Nodes
pub mod Values
pub mod Shapes
pub mod Making
pub mod Asking

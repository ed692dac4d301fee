-- Lemmas on the definitions, which the laws' proofs and crates above cite. No definition that a
-- contract cites stands here.
pub mod Saturated
pub mod Sets
pub mod Ends
pub mod Corners
pub mod Orders
pub mod Ranges
pub mod Operators
pub mod TruthSets
pub mod Reads
pub mod ExpressionLemmas
pub mod Hulls
pub mod TableLemmas

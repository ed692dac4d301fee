-- Lemmas on the definitions, which the laws' proofs and crates above cite. No definition that a
-- contract cites stands here.
pub mod Columns
pub mod WalkMeanings
pub mod Numbers
pub mod Lengths
pub mod WordMeanings
pub mod AtTypes
pub mod Orders
pub mod Casts

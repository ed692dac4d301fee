-- Lemmas on the definitions, which the laws' proofs and crates above cite. No definition that a
-- contract cites stands here.
pub mod Ready
pub mod Facts
pub mod Unaries
pub mod Binaries
pub mod Selections
pub mod CellWords
pub mod ReadMeanings
pub mod Inside
pub mod ReadReady
pub mod CircuitMeanings
pub mod AllBinaries

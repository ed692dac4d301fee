-- Lemmas on the definitions, which the laws' proofs and crates above cite. No definition that a
-- contract cites stands here.
pub mod SameWalk
pub mod CoreLayers
pub mod CoreItems
pub mod Faults
pub mod Entries
pub mod Enumerations
pub mod MadeValues
pub mod ObjectCells
pub mod BodyCounts

-- Lemmas on the definitions, which the laws of Laws.antt and lemmas of other crates cite. No
-- definition that a contract cites stands here.
pub mod Parts
pub mod Layers
pub mod Variants
pub mod SameTrees
pub mod ScalarReads
pub mod ValueRanges
pub mod CellsRead
pub mod Substitution
pub mod TrapsKept
pub mod Unread
pub mod Traps

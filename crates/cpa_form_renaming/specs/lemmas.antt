-- Lemmas on the definitions, which the laws of Laws.antt and lemmas of other crates cite. No
-- definition that a contract cites stands here.
pub mod Together
pub mod Nodes
pub mod Longer
pub mod Renamed
pub mod Runs
pub mod TestShapes
pub mod TestValues

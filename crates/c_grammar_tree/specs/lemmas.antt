-- Lemmas on the definitions, which proofs here and in other crates cite. No definition that a
-- contract cites stands here.
pub mod Levels
pub mod OneReading
pub mod OneReadingOfText
pub mod Seen
pub mod Terminals

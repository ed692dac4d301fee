-- Lemmas on the definitions, which proofs here and in other crates cite. No definition that a
-- contract cites stands here.
pub mod Brackets
pub mod Choices
pub mod Exits
pub mod Found
pub mod Loops
pub mod NotFound
pub mod Seen
pub mod Steady

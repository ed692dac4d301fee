-- Lemmas on the definitions, which proofs of this crate and of those above cite. No definition that
-- a contract cites stands here.
pub mod Measure
pub mod TrailSteps
pub mod Sound
pub mod Values

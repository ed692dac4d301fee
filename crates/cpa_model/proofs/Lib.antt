pub mod Stores
pub mod Moves
pub mod EdgeSteps
pub mod CoverLemmas
pub mod Edges
pub mod Errors

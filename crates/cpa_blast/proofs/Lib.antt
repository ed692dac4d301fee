pub mod WeightParts
pub mod Turns
pub mod Blasted

pub mod Sizes
pub mod Starts
pub mod Jumps
pub mod Labels
pub mod Standing
pub mod Laws
pub mod lemmas

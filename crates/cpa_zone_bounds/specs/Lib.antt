pub mod Distances
pub mod Changes
pub mod Closures
pub mod Limits
pub mod Laws
pub mod lemmas

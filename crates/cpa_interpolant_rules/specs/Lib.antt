pub mod Stores
pub mod Interpolants
pub mod Parts
pub mod Found
pub mod lemmas
pub mod Laws

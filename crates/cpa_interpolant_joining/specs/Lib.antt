pub mod Joining
pub mod lemmas
pub mod Laws

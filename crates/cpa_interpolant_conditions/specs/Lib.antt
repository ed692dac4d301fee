pub mod Making
pub mod Asked
pub mod Interpolants
pub mod lemmas
pub mod Laws

pub mod Touching
pub mod Cuts
pub mod lemmas
pub mod Places
pub mod Variables
pub mod Laws

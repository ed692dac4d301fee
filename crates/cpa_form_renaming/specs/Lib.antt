pub mod Places
pub mod Renaming
pub mod TrapTests
pub mod lemmas
pub mod Laws

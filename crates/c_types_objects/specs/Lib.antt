pub mod Initializers
pub mod Enumerations
pub mod lemmas

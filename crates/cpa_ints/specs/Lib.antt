pub mod formers
pub mod Integers
pub mod Wrapping
pub mod Conversions
pub mod DataModels
pub mod Bits
pub mod Quotients
pub mod lemmas

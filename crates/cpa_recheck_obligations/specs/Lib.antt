pub mod Spots
pub mod Writes
pub mod Obligations
pub mod Tables
pub mod Meeting
pub mod Forms
pub mod Laws
pub mod lemmas

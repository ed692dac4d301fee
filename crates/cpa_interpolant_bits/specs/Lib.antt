pub mod Bits
pub mod Nodes
pub mod Limits
pub mod Meanings
pub mod Tables
pub mod lemmas
pub mod Laws

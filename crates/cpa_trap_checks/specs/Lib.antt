pub mod Nodes
pub mod Wraps
pub mod Checks
pub mod Tells
pub mod lemmas
pub mod Laws

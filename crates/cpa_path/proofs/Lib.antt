pub mod Along
pub mod Linked
pub mod Walked
pub mod Formed
pub mod Weighed

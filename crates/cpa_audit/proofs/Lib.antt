pub mod Neighbours
pub mod Dividing

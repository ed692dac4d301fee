pub mod Edges
pub mod Steps
pub mod SharedCells
pub mod Whole

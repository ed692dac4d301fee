pub mod ObjectCells
pub mod Measures
pub mod Rests
pub mod Layouts

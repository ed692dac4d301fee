pub mod Among
pub mod Marks
pub mod Circles

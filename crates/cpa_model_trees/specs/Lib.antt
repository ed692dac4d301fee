pub mod Numbering
pub mod Shapes
pub mod Rows
pub mod Laws
pub mod lemmas

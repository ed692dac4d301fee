pub mod Cells
pub mod Cuts
pub mod Acts
pub mod Laws
pub mod lemmas

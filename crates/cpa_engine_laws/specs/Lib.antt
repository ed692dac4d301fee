pub mod Lines
pub mod Chains
pub mod Pairs
pub mod States
pub mod Cells
pub mod lemmas

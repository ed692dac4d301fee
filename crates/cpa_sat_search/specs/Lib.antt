pub mod Analyses
pub mod Fresh
pub mod States
pub mod Endings

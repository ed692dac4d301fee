pub mod Components
pub mod Covers
pub mod lemmas

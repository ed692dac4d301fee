pub mod Points
pub mod Keys
pub mod Stages
pub mod Turns
pub mod Journals
pub mod Bounds
pub mod Steps
pub mod lemmas

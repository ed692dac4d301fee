pub mod Lines
pub mod Picks

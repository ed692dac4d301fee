pub mod Blocks
pub mod Places
pub mod Prints
pub mod Runs
pub mod Sharing
pub mod lemmas

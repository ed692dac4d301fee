pub mod Firsts
pub mod Blocks
pub mod Outcomes
pub mod Starts

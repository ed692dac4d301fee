pub mod Counting
pub mod Growing
pub mod Guessing
pub mod Live

pub mod Answers
pub mod Storage
pub mod Steps
pub mod Specified

pub mod Checks
pub mod Stacks
pub mod Rivals
pub mod Walks
pub mod Surveys

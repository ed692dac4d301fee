pub mod Kept
pub mod Rounds
pub mod Answers
pub mod Decided
pub mod Searches

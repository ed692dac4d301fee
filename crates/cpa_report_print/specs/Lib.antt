pub mod lemmas
pub mod Reports
pub mod Steps
pub mod Tokens

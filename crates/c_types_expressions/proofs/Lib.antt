pub mod Lists
pub mod Steps
pub mod Suffixes
pub mod Uses
pub mod Variants

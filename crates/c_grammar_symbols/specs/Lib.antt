pub mod Spelling
pub mod Symbols
pub mod Kinds
pub mod Hashes
pub mod Sources

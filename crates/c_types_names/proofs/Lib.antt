pub mod Numbering
pub mod Lasts
pub mod Places

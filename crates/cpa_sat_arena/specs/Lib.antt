pub mod Hashes
pub mod Extents

pub mod Faults
pub mod Heights
pub mod Ranges

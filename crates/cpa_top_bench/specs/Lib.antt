pub mod Configurations
pub mod Measurements
pub mod Texts

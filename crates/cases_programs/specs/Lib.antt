pub mod Samples
pub mod Fits

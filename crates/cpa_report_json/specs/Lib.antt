pub mod lemmas
pub mod Fits
pub mod Plain
pub mod Taking

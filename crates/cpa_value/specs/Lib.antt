pub mod Cells
pub mod Tables
pub mod Transfer
pub mod Values
pub mod Strengthening
pub mod Limits
pub mod Merging

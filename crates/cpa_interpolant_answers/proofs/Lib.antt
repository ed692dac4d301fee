pub mod Fitting
pub mod Parted
pub mod Running
pub mod Concluding
pub mod Modelled

pub mod Enumerating
pub mod FirstFault
pub mod Fitting
pub mod Words

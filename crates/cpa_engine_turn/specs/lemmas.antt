-- What crates above may cite of the proofs.
pub mod Lists
pub mod Keyed
pub mod Picked
pub mod Counted

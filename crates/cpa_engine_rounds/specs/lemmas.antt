-- What crates above may cite of the proofs.
pub mod Safe

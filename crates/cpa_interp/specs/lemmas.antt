-- The proofs of the laws, and what crates above may cite of them.
pub mod Opening
pub mod Calling
pub mod Going
pub mod Choosing
pub mod Outcomes

-- The proofs of the laws, and what crates above may cite of them.
pub mod Kept
pub mod Working
pub mod ByKeys
pub mod ByPins
pub mod Ways
pub mod KeyWays
pub mod Fitting
pub mod PinWays
pub mod Bounded
pub mod Telling
pub mod Growing
pub mod Starting
pub mod Covering

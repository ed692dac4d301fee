pub mod Errors
pub mod Precisions
pub mod Clearing
pub mod Opening
pub mod Pivots
pub mod lemmas

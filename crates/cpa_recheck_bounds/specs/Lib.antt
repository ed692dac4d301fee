pub mod Cutting
pub mod Saying
pub mod Exact
pub mod Standing

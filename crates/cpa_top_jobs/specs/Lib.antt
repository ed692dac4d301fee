pub mod Ends
pub mod Files
pub mod Inputs
pub mod Jobs
pub mod Lines
pub mod Refusals
pub mod Statuses

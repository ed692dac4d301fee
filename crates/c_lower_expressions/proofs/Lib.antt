pub mod CallForms
pub mod Chains
pub mod FramesAt
pub mod Lists
pub mod Suffixes
pub mod Variants
pub mod ParameterWrites

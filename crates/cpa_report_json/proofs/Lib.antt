pub mod Ascents
pub mod Chains
pub mod Parts
pub mod Takings

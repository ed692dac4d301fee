pub mod Configurations
pub mod Laws
pub mod Lines
pub mod Rules
pub mod Values

pub mod Filled
pub mod HeldOperands

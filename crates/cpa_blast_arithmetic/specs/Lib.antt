pub mod Products
pub mod Moves
pub mod Shifts
pub mod lemmas
pub mod Laws

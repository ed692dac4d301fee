pub mod Sides
pub mod Partials
pub mod Interpolants
pub mod Tables
pub mod Rooms

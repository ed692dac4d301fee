pub mod Leaving
pub mod Picking
pub mod Turning
pub mod Arriving

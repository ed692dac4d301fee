pub mod Read
pub mod Turns

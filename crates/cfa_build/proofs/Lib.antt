pub mod Exits
pub mod Growth
pub mod Known
pub mod Statements
pub mod Tables
pub mod Whole

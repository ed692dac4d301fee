pub mod Values
pub mod Trees
pub mod Cells
pub mod Acts
pub mod Places
pub mod Expressions
pub mod Statements
pub mod Programs

pub mod KnownValues
pub mod Cells
pub mod Tables
pub mod Acts
pub mod lemmas

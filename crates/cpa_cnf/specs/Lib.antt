pub mod Literals
pub mod Clauses
pub mod Resolution
pub mod Lines
pub mod Models
pub mod Marking
pub mod lemmas

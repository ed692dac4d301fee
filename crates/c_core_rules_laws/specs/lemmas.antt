-- Lemmas on the definitions, which the laws' proofs and crates above cite. No definition that a
-- contract cites stands here.
pub mod Values
pub mod Statements
pub mod Runs
pub mod Acts
pub mod Places
pub mod Rows
pub mod Layers
pub mod Expressions
pub mod Declarations
pub mod Items
pub mod Texts
pub mod Layouts

pub mod InOrder
pub mod Runs
pub mod StatementForms

pub mod CellTypes
pub mod WrapSteps
pub mod Quotients

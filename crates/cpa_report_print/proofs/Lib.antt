pub mod WideNumbers
pub mod Writing

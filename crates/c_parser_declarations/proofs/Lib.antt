pub mod Steadies
pub mod Ahead
pub mod Arms
pub mod Enums
pub mod Declared

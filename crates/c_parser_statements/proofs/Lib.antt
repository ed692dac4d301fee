pub mod Steadies
pub mod Arms
pub mod Ahead
pub mod Heads
pub mod Dispatch

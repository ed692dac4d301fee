pub mod Faults
pub mod Forgetting
pub mod Globals
pub mod Heads
pub mod Next
pub mod Typed

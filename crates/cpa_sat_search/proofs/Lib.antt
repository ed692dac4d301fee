pub mod Marks
pub mod Conflicts
pub mod Growth
pub mod Loading

pub mod Found
pub mod Trees

pub mod Lists
pub mod Entering
pub mod Trees
pub mod Faults
pub mod Views

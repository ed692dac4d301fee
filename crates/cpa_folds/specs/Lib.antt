pub mod Along
pub mod Needed
pub mod Carried
pub mod CarriedLaws
pub mod Scalars
pub mod Tracking
pub mod lemmas

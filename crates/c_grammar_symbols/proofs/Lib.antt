pub mod SourceFacts
mod Tables
pub mod KindFacts
pub mod HashFacts
pub mod Seen
pub mod FirstTypes

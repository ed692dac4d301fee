pub mod Gathering
pub mod MarkLemmas
pub mod Newly
pub mod SetFirst
pub mod Finding
pub mod Reopening

pub mod CarriedLemmas
pub mod MarkLemmas
pub mod NeededLemmas

mod OrderLemmas
pub mod TableLemmas
pub mod ChangeLemmas

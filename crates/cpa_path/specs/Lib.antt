pub mod Paths
pub mod Judgements

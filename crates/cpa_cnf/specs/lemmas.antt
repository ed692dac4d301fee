-- Lemmas on the definitions, which crates above cite.
pub mod Members
pub mod Chains
pub mod Marking

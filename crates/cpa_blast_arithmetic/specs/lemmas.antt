-- Lemmas on the definitions, which the laws' proofs and crates above cite.
pub mod ProductMeanings
pub mod MoveLaws
pub mod StageMeanings
pub mod ShiftsAtTypes
pub mod ShiftMeanings
pub mod Constants

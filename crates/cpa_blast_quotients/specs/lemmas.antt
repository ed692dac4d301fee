-- Lemmas on the definitions, which the laws' proofs cite.
pub mod StageNumbers
pub mod DividerMeanings
pub mod Signs
pub mod QuotientsAtTypes
pub mod QuotientMeanings

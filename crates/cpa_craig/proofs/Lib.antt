pub mod ReadLemmas
pub mod CraigLaws
pub mod RefiningLemmas
pub mod WalkLemmas
pub mod Progress
pub mod WalkClauses

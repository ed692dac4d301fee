-- Lemmas on the definitions that the meaning of the analysis carries. No definition that a contract
-- cites stands here.
pub mod CoverLaws
pub mod Falls
pub mod WideningLaws

-- Lemmas on what tests and acts leave of bounds. No definition that a contract cites stands here.
pub mod ZipLemmas
pub mod CutLemmas
pub mod AssumeLemmas
pub mod ActLemmas

-- Lemmas on the definitions, which lemmas of other crates cite. No definition that a contract cites
-- stands here.
pub mod Runs

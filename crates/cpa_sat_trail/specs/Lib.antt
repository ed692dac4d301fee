pub mod Trails
pub mod Propagations
pub mod Progress
pub mod Findings
pub mod lemmas
